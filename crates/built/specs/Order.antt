-- The order of the energy entries. The Rust keeps them in a hash map, whose order is free; proofs/ shows that it does not matter here.
use Rattle.std.specs.Prelude.{◌≡◌, true}
use mathlib.Core.List.{List, ◌∷◌, ◌++◌, Permᴰ}
use Rattle.reply.specs.Number.{number_of}
use Rattle.reply.specs.declared.Refusal.{Refusal}
use Rattle.reply.specs.declared.Refusal.TheVariants.{WrongSize}
use Rattle.sdc1d_params.specs.Params.{Params, Outcome, left_as_lent, from_params}
use Rattle.sdc1d_params.specs.declared.Build.{Build}
use Rattle.sdc1d_params.specs.declared.Entry.{Entry}

-- the parameter set with these entries, in this order, and all else as it was
unfoldable pub with_entries : Params → List Entry → Params
with_entries p entries =
    record {
      text = p.text;
      users = p.users;
      strands = p.strands;
      scaffold = p.scaffold;
      entries = record { ragged = p.entries.ragged; each = entries };
      penalty_dg = p.penalty_dg;
      penalty_ds = p.penalty_ds;
      quencher = p.quencher;
      reporter = p.reporter;
    }

-- what a refusal leaves: its number, and what was lent as it was
abbrev pub refused_with : Refusal → Outcome → Outcome
refused_with refusal lent = left_as_lent lent (number_of refusal)

-- the answer does not hang on the order of the entries
pub record OrderFree : Type 0 where
  -- Two neighbouring entries may change places: the number and all four lent slices stay the same.
  pub neighbours :
      (build : Build) (p : Params) (lent : Outcome) (before after : List Entry) (x y : Entry)
      → from_params build (with_entries p (before ++ x ∷ y ∷ after)) lent ≡ from_params build (with_entries p (before ++ y ∷ x ∷ after)) lent
  -- So they stay the same in whatever order the entries stand; `List.Permᴰ` is mathlib's relation of two lists that hold the same in another order.
  pub any_order :
      (build : Build) (p : Params) (lent : Outcome) (entries others : List Entry)
      → Permᴰ entries others
      → from_params build (with_entries p entries) lent ≡ from_params build (with_entries p others) lent
  -- This speaks of every parameter set: it is the one with its own entries.
  pub every : (p : Params) → with_entries p p.entries.each ≡ p
  -- Rows that are not whole, or have not two doubles each, are refused for their size, whatever they hold.
  pub uneven : (build : Build) (p : Params) (lent : Outcome) → p.entries.ragged ≡ true → from_params build p lent ≡ refused_with WrongSize lent
