-- `sdc1d_params::crowding_strand` meets its contract. Assumes nothing.
use mathlib.Core.Path.{◌≡◌, sym, ap, ◌∙◌}
use mathlib.Core.List.{List}
use Prim.Native.Nat.{ℕ, ◌/◌}
use lib.ListN.{length}
use Rattle.std.specs.Prelude.{Option, position}
use Rattle.std.specs.Option.{option_map}
use Rattle.lists.specs.Build.{up_to}
use Rattle.lists.proofs.Build.{length-tabulate}
use Rattle.sdc_common.specs.Lent.{names_of, glues_of}
use Rattle.sdc_common.specs.Numbers.{crowds}
use Rattle.sdc_common.proofs.Fit.{glue_at, glues-listed, strands-fit, strands-few}
use Rattle.sdc1d_params.specs.Places.{crowding_strand}
use Rattle.sdc1d_params.proofs.strands.crowding_strand.Goals as goal

pub first_beyond-requires-clause-fit_names : goal.first_beyond-requires-clause-fit_names
first_beyond-requires-clause-fit_names c = let l = c.args.set.now.lent in strands-fit l.users l.text.now l.strands.now c.requires

pub first_beyond-requires-clause-names_len_bound : goal.first_beyond-requires-clause-names_len_bound
first_beyond-requires-clause-names_len_bound c = let l = c.args.set.now.lent in strands-few l.users l.text.now l.strands.now c.requires

-- the strand of a glue
by_glue : (text rows : List ℕ) (glue : Option ℕ) → glue ≡ position (crowds 31 (glues_of text (names_of rows))) (up_to (length rows / 3)) → crowding_strand (glues_of text (names_of rows)) ≡ option_map (λ (k : ℕ). k / 3) glue
unfolding crowding_strand
by_glue text rows glue e =
    let many : length (glues_of text (names_of rows)) ≡ length rows / 3 = ap length (glues-listed text rows) ∙ length-tabulate (length rows / 3) (glue_at text rows) in
    ap (λ (n : ℕ). option_map (λ (k : ℕ). k / 3) (position (crowds 31 (glues_of text (names_of rows))) (up_to n))) many ∙ ap (option_map (λ (k : ℕ). k / 3)) (sym e)

pub returns-in_err-glue : goal.returns-in_err-glue
returns-in_err-glue c =
    let l = c.args.set.now.lent in
    c.from_residual.ensures ∙ sym (by_glue l.text.now l.strands.now _ c.first_beyond.ensures ∙ ap (option_map (λ (k : ℕ). k / 3)) c.in_err-glue.was)

pub returns : goal.returns
returns c =
    let l = c.args.set.now.lent in
    sym (by_glue l.text.now l.strands.now _ c.first_beyond.ensures ∙ ap (option_map (λ (k : ℕ). k / 3)) c.in_ok-glue.was)
