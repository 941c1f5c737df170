-- `sdc1d_params::check` meets its contract: each return is the first check that holds, with its place, and the last leaves what is written. Assumes
-- nothing.
use mathlib.Core.Path.{◌≡◌, refl, ap, sym, ◌∙◌}
use mathlib.Core.Bool.{false}
use mathlib.Core.List.{List}
use lib.ListN.{length}
use Rattle.std.specs.Prelude.{None, position}
use Rattle.lists.specs.Find.{any}
use Rattle.lists.specs.Build.{up_to}
use Rattle.lists.proofs.Searches.{position_some, position_none}
use Rattle.reply.specs.declared.Refusal.TheVariants.{WrongSize, NotABase, TooShort, UnknownName, TooManyGlues, DuplicatePair}
use Rattle.reply.proofs.Asked.{admits, exits_nowhere}
use Rattle.sdc_common.specs.Lent.{names_of, glues_of}
use Rattle.sdc_common.specs.Numbers.{numbers_among}
use Rattle.sdc_common.specs.Spelled.{is_unknown}
use Rattle.sdc_common.specs.Calls.{too_many_bases}
use Rattle.sdc_common.proofs.Fit.{rows-many, fit-names, strands-fit, strands-few}
use Rattle.sdc1d_params.specs.Entries.{Cell, has_bad_base, is_short}
use Rattle.sdc1d_params.specs.Tables.{cells_of, duplicated, out_of_range}
use Rattle.sdc1d_params.specs.Places.{repeats, refusal_place, placed}
use Rattle.sdc1d_params.specs.inner.Set.{set_of, as_lent}
use Rattle.sdc1d_params.specs.Params.{energies_of, strand_names, bases, writes_of, wrong_size}
use Rattle.sdc1d_params.proofs.Lengths.{Sized, sized}
use Rattle.sdc1d_params.proofs.Found.{numbers-among, numbers-length, unknown-placed}
use Rattle.sdc1d_params.proofs.Passed.{reply-size, reply-base, reply-short, reply-unknown, reply-glues, reply-twice, reply-last, few-bases, many-bases, cells_written, writes_found, cells-inside, checked}
use Rattle.sdc1d_params.proofs.Placed.{none_where, exits_where, told_at, last_at, once_only, twice_at}
use Rattle.sdc1d_params.proofs.checks.check.Goals as goal
use Rattle.sdc1d_params.proofs.checks.check.Goals.{In_ok-refused_if, In_ok-refused_where, In_ok-refused_where-2, In_ok-refused_where-3, In_ok-refused_where-4, After-fill_numbers, Else-len-gt-MOST_BASES}

-- what each check leaves where it passes
size : (c : In_ok-refused_if) → wrong_size (set_of c.args.set.now) (as_lent c.args.lent.now) ≡ false
size c = sym c.wrong_size.ensures ∙ admits WrongSize _ c.in_ok-refused_if.ensures

fit : (c : In_ok-refused_if) → Sized (set_of c.args.set.now) (as_lent c.args.lent.now)
fit c = sized (set_of c.args.set.now) (as_lent c.args.lent.now) (size c)

base : (c : In_ok-refused_where) → any (has_bad_base c.args.set.now.lent.text.now) (energies_of (set_of c.args.set.now)) ≡ false
base c = position_none _ _ (sym c.first_bad_base.ensures ∙ none_where NotABase _ c.in_ok-refused_where.ensures)

short : (c : In_ok-refused_where-2) → any (is_short c.args.set.now.lent.text.now) (energies_of (set_of c.args.set.now)) ≡ false
short c = position_none _ _ (sym c.first_short.ensures ∙ none_where TooShort _ c.in_ok-refused_where-2.ensures)

numbers : (c : After-fill_numbers) → c.fill_numbers.new.numbers ≡ numbers_among (strand_names (set_of c.args.set.now)) (glues_of c.args.set.now.lent.text.now (names_of c.args.set.now.lent.scaffold.now))
numbers c = numbers-among _ _ _ _ c.new-bases.ensures c.fill_numbers.ensures

known : (c : In_ok-refused_where-3) → any (is_unknown (bases (set_of c.args.set.now))) (glues_of c.args.set.now.lent.text.now (names_of c.args.set.now.lent.scaffold.now)) ≡ false
known c =
    let all = numbers-among _ _ _ _ c.new-bases.ensures c.fill_numbers.ensures in
    position_none _ _ (sym (unknown-placed (strand_names (set_of c.args.set.now)) c.args.set.now.lent.text.now c.args.set.now.lent.scaffold.now _ all) ∙ sym c.first_unknown-unknown.ensures ∙ none_where UnknownName _ c.in_ok-refused_where-3.ensures)

few : (c : Else-len-gt-MOST_BASES) → too_many_bases (strand_names (set_of c.args.set.now)) ≡ false
few c = few-bases (set_of c.args.set.now) c.new-bases.result c.len.result (sym c.len.ensures) c.new-bases.ensures c.if-len-gt-MOST_BASES.false

pub returns-in_err-refused_if-clause-value : goal.returns-in_err-refused_if-clause-value
unfolding refusal_place
returns-in_err-refused_if-clause-value c =
    let p = set_of c.args.set.now in
    let lent = as_lent c.args.lent.now in
    let q = exits_nowhere c.from_residual.result WrongSize c.wrong_size.result _ c.from_residual.ensures.1 c.in_err-refused_if.ensures in
    told_at p WrongSize None _ _ q.1 refl (reply-size p lent (sym c.wrong_size.ensures ∙ q.0))

pub returns-in_err-refused_where-clause-value : goal.returns-in_err-refused_where-clause-value
unfolding refusal_place
returns-in_err-refused_where-clause-value c =
    let p = set_of c.args.set.now in
    let so = goal.at.returns-in_err-refused_where-clause-value c in
    let q = exits_where c.from_residual-in_err-refused_where.result NotABase c.first_bad_base.result _ c.from_residual-in_err-refused_where.ensures.1 c.in_err-refused_where.ensures in
    let some = position_some _ _ (sym c.first_bad_base.ensures ∙ q.1) in
    told_at p NotABase _ _ _ q.2 c.first_bad_base.ensures (reply-base p (as_lent c.args.lent.now) (size so.In_ok-refused_if) some.0)

pub returns-in_err-refused_where-2-clause-value : goal.returns-in_err-refused_where-2-clause-value
unfolding refusal_place
returns-in_err-refused_where-2-clause-value c =
    let p = set_of c.args.set.now in
    let so = goal.at.returns-in_err-refused_where-2-clause-value c in
    let q = exits_where c.from_residual-in_err-refused_where-2.result TooShort c.first_short.result _ c.from_residual-in_err-refused_where-2.ensures.1 c.in_err-refused_where-2.ensures in
    let some = position_some _ _ (sym c.first_short.ensures ∙ q.1) in
    told_at p TooShort _ _ _ q.2 c.first_short.ensures (reply-short p (as_lent c.args.lent.now) (size so.In_ok-refused_if) (base so.In_ok-refused_where) some.0)

pub new-bases-requires : goal.new-bases-requires
new-bases-requires c =
    let p = set_of c.args.set.now in
    let strands = (fit (goal.at.new-bases-requires c).In_ok-refused_if).strands in
    let rows = c.args.set.now.lent.strands.now in
    record { fit_names = strands-fit p.users p.text rows strands; names_len_bound = strands-few p.users p.text rows strands }

pub fill_numbers-requires : goal.fill_numbers-requires
fill_numbers-requires c =
    let s = c.args.set.now in
    let scaffold = (fit (goal.at.fill_numbers-requires c).In_ok-refused_if).scaffold in
    record {
      fit_names = fit-names _ s.lent.text.now s.lent.scaffold.now scaffold;
      numbers_len = c.requires.scaffold_glues_len_bound.1 ∙ sym (rows-many _ s.lent.text.now s.lent.scaffold.now scaffold);
    }

pub first_unknown-unknown-requires : goal.first_unknown-unknown-requires
first_unknown-unknown-requires c =
    let s = c.args.set.now in
    let so = goal.at.first_unknown-unknown-requires c in
    record {
      fit_names = fit-names _ s.lent.text.now s.lent.scaffold.now (fit so.In_ok-refused_if).scaffold;
      numbers_len = numbers-length (strand_names (set_of s)) s.lent.text.now s.lent.scaffold.now _ (numbers so.After-fill_numbers);
    }

pub returns-in_err-refused_where-3-clause-value : goal.returns-in_err-refused_where-3-clause-value
unfolding refusal_place
returns-in_err-refused_where-3-clause-value c =
    let s = c.args.set.now in
    let p = set_of s in
    let so = goal.at.returns-in_err-refused_where-3-clause-value c in
    let q = exits_where c.from_residual-in_err-refused_where-3.result UnknownName c.first_unknown-unknown.result _ c.from_residual-in_err-refused_where-3.ensures.1 c.in_err-refused_where-3.ensures in
    let at : c.first_unknown-unknown.result ≡ position (is_unknown (bases p)) (glues_of p.text p.scaffold) = c.first_unknown-unknown.ensures ∙ unknown-placed (strand_names p) s.lent.text.now s.lent.scaffold.now _ (numbers so.After-fill_numbers) in
    let some = position_some _ _ (sym at ∙ q.1) in
    told_at p UnknownName _ _ _ q.2 at (reply-unknown p (as_lent c.args.lent.now) (size so.In_ok-refused_if) (base so.In_ok-refused_where) (short so.In_ok-refused_where-2) some.0)

pub crowding_strand-requires : goal.crowding_strand-requires
crowding_strand-requires c = (fit (goal.at.crowding_strand-requires c).In_ok-refused_if).strands

pub returns-then-len-gt-MOST_BASES-clause-value : goal.returns-then-len-gt-MOST_BASES-clause-value
unfolding refusal_place
returns-then-len-gt-MOST_BASES-clause-value c =
    let p = set_of c.args.set.now in
    let so = goal.at.returns-then-len-gt-MOST_BASES-clause-value c in
    let many = many-bases p c.new-bases.result c.len.result (sym c.len.ensures) c.new-bases.ensures c.if-len-gt-MOST_BASES.true in
    told_at p TooManyGlues c.crowding_strand.result _ _ refl c.crowding_strand.ensures (reply-glues p (as_lent c.args.lent.now) (size so.In_ok-refused_if) (base so.In_ok-refused_where) (short so.In_ok-refused_where-2) (known so.In_ok-refused_where-3) many)

pub first_repeated-requires : goal.first_repeated-requires
first_repeated-requires c = cells-inside c.args.set.now _ _ c.new-bases.ensures c.fill_cells.ensures (few (goal.at.first_repeated-requires c).Else-len-gt-MOST_BASES)

pub returns-in_err-refused_where-4-clause-value : goal.returns-in_err-refused_where-4-clause-value
unfolding refusal_place
returns-in_err-refused_where-4-clause-value c =
    let s = c.args.set.now in
    let p = set_of s in
    let so = goal.at.returns-in_err-refused_where-4-clause-value c in
    let q = exits_where c.from_residual-in_err-refused_where-4.result DuplicatePair c.first_repeated.result _ c.from_residual-in_err-refused_where-4.ensures.1 c.in_err-refused_where-4.ensures in
    let at : c.first_repeated.result ≡ position (repeats (cells_of (writes_of p))) (up_to (length (cells_of (writes_of p))))
    = c.first_repeated.ensures ∙ ap (λ (cells : List Cell). position (repeats cells) (up_to (length cells))) (cells_written s _ _ c.new-bases.ensures c.fill_cells.ensures) in
    told_at p DuplicatePair _ _ _ q.2 at (reply-twice p (as_lent c.args.lent.now) (size so.In_ok-refused_if) (base so.In_ok-refused_where) (short so.In_ok-refused_where-2) (known so.In_ok-refused_where-3) (few so.Else-len-gt-MOST_BASES) (twice_at (cells_of (writes_of p)) (sym at ∙ q.1)))

pub returns : goal.returns
returns c =
    let s = c.args.set.now in
    let p = set_of s in
    let so = goal.at.returns c in
    let at : c.first_repeated.result ≡ position (repeats (cells_of (writes_of p))) (up_to (length (cells_of (writes_of p))))
    = c.first_repeated.ensures ∙ ap (λ (cells : List Cell). position (repeats cells) (up_to (length cells))) (cells_written s _ _ c.new-bases.ensures c.fill_cells.ensures) in
    let once : duplicated (cells_of (writes_of p)) ≡ false = once_only (cells_of (writes_of p)) (sym at ∙ none_where DuplicatePair _ c.in_ok-refused_where-4.ensures) in
    let out : c.first_out.result ≡ position out_of_range (writes_of p) = c.first_out.ensures ∙ ap (position out_of_range) (writes_found s _ _ c.new-bases.ensures c.fill_cells.ensures) in
    record {
      value = c.refused_where-5.ensures ∙ last_at p _ out ∙ ap (placed p) (reply-last p (as_lent c.args.lent.now) (size so.In_ok-refused_if) (base so.In_ok-refused_where) (short so.In_ok-refused_where-2) (known so.In_ok-refused_where-3) (few so.Else-len-gt-MOST_BASES) once refl);
      checked = λ e. checked s _ _ c.new-bases.ensures c.fill_cells.ensures (few so.Else-len-gt-MOST_BASES) _ (numbers so.After-fill_numbers) (known so.In_ok-refused_where-3);
    }
