use mathlib.Core.Path.{◌≡◌, sym, ap, ◌∙◌}
use mathlib.Core.List.{List, [], ◌∷◌, ◌++◌}
use Prim.Native.Nat.{ℕ, suc}
use native.Mathlib.Numerals.{add-one}
use native.Mathlib.Omega.{arith}
use lib.ListN.{length, get_or, take, length-append}
use lib.Seq.{take-length}
use lib.Ieee.{Float, nan, binary64, add}
use Rattle.std.specs.Iterator.Adapters.{rev_source, enumerate_source, enumerate_count}
use Rattle.std.specs.Slice.Iter.{iter_rest}
use Rattle.doubles.specs.Least.{pick, last_least}
use Rattle.ensemble.specs.declared.attach.Entries.{Entries}
use Rattle.ensemble.specs.inner.Entries.{table_bond}
use Rattle.ensemble.proofs.LastLeast.{not-above, least-here}
use Rattle.ensemble.proofs.Walked.{last-of}
use Rattle.ensemble.proofs.sums.last_least.Goals as goal

pub loop-k-init : goal.loop-k-init
loop-k-init c =
    let options = c.args.left.now.options.now in
    let begun = ap rev_source c.into_iter-k-iterator.ensures.into_iter_gives ∙ c.rev-k-items.ensures.source in
    let all : iter_rest (enumerate_source (rev_source c.into_iter-k-iterator.result)) ≡ options =
    ap (λ x. iter_rest (enumerate_source x)) begun ∙ ap iter_rest c.enumerate.ensures.source ∙ c.iter.ensures.rest in
    record {
      from = ap enumerate_count begun ∙ c.enumerate.ensures.count;
      part = rw all (sym (take-length options));
      choice = λ key keys e. ap (last_least key) (sym all);
    }

-- the entry passed is the last of those that are left, and what is compared of it
abbrev bond-of : Entries → ℕ → ℕ → Float
bond-of left right x = table_bond left.bonds.strands left.bonds.cells.now x right

pub loop-k-preserved : goal.loop-k-preserved
loop-k-preserved c =
    let left = c.args.left.now in
    let options = left.options.now in
    let was = c.loop-k.invariant in
    let step = rw c.in-Some.is at c.next.ensures.steps in
    let rest = iter_rest (enumerate_source (rev_source c.next.new.self)) in
    let k = length rest in
    let here = last-of options 0 rest (sym step.1.0 ∙ was.part ∙ ap (λ (ys : List ℕ). take (length ys) options) step.1.0) in
    let number : c.in-Some.k ≡ k = omega (arith, step.1.1, was.from) in
    let longer : length (rest ++ c.in-Some.strand.now ∷ []) ≡ suc k = length-append rest (c.in-Some.strand.now ∷ []) ∙ add-one k in
    record {
      from = step.0 ∙ was.from;
      part = here.earlier;
      choice = λ key keys e.
          let so_far : last_least key options ≡ last_least key (take (suc k) options) =
          was.choice key keys e ∙ ap (last_least key) (was.part ∙ ap (λ (n : ℕ). take n options) (ap length step.1.0 ∙ longer)) in
          let sum : add binary64 (get_or left.energies.now c.in-Some.k nan) c.between.result ≡ key (get_or options k 0) =
          rw number (ap (add binary64 (get_or left.energies.now k nan)) (c.between.ensures ∙ ap (bond-of left c.args.right) here.last) ∙ keys k here.inside) in
          so_far ∙ not-above key options k here.inside (e ∙ ap key so_far) sum c.if-not-least-left.false ∙ ap (last_least key) (sym here.earlier);
    }

pub returns-then-not-least-left-clause-choice : goal.returns-then-not-least-left-clause-choice
returns-then-not-least-left-clause-choice c = λ key keys e.
    let left = c.args.left.now in
    let options = left.options.now in
    let was = c.loop-k.invariant in
    let step = rw c.in-Some.is at c.next.ensures.steps in
    let rest = iter_rest (enumerate_source (rev_source c.next.new.self)) in
    let k = length rest in
    let here = last-of options 0 rest (sym step.1.0 ∙ was.part ∙ ap (λ (ys : List ℕ). take (length ys) options) step.1.0) in
    let number : c.in-Some.k ≡ k = omega (arith, step.1.1, was.from) in
    let longer : length (rest ++ c.in-Some.strand.now ∷ []) ≡ suc k = length-append rest (c.in-Some.strand.now ∷ []) ∙ add-one k in
    let so_far : last_least key options ≡ last_least key (take (suc k) options) =
    was.choice key keys e ∙ ap (last_least key) (was.part ∙ ap (λ (n : ℕ). take n options) (ap length step.1.0 ∙ longer)) in
    let sum : add binary64 (get_or left.energies.now c.in-Some.k nan) c.between.result ≡ key (get_or options k 0) =
    rw number (ap (add binary64 (get_or left.energies.now k nan)) (c.between.ensures ∙ ap (bond-of left c.args.right) here.last) ∙ keys k here.inside) in
    here.last ∙ sym (so_far ∙ least-here key options k here.inside (e ∙ ap key so_far) sum c.if-not-least-left.true)

pub returns-clause-choice : goal.returns-clause-choice
unfolding pick
returns-clause-choice c = λ key keys e.
    let was = c.loop-k.invariant in
    let step = rw c.in-None.is at c.next.ensures.steps in
    let none = was.part ∙ ap (λ (n : ℕ). take n c.args.left.now.options.now) step.1.0 in
    sym (was.choice key keys e ∙ ap (last_least key) none)
