-- The options that a constraint leaves, as they are written into rows.
use Rattle.std.specs.Prelude.{◌≡◌, List, [], ℕ, ◌*◌, ◌≤◌, ◌<◌, length, get_or, take, drop}
use Rattle.lists.specs.Build.{keep}
use Rattle.partition.specs.Constraint.{allows}
use Rattle.partition_sums.specs.Layout.{options_at}

-- a row begins with the options that a list allows, `count` of them
pub record Kept (list options row : List ℕ) (count : ℕ) : Type 0 where
  pub number : count ≡ length (keep (allows list) options)
  pub few : count ≤ 64
  pub holds : take count row ≡ keep (allows list) options

-- the row of each position
pub record KeptRows (rows counts : List ℕ) (lists : List (List ℕ)) (kept_rows kept_counts : List ℕ) : Type 0 where
  pub positions : length kept_counts ≡ length counts
  pub sized : 64 * length counts ≤ length kept_rows
  pub kept : (i : ℕ) → i < length counts → Kept (get_or lists i []) (options_at rows counts i) (take 64 (drop (64 * i) kept_rows)) (get_or kept_counts i 0)
