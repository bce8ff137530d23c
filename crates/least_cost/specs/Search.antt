-- What the parts of the search ask of each other.
use Rattle.std.specs.Prelude.{◌≡◌, ℕ, ◌+◌, ◌-◌, ◌*◌, ◌^◌, ◌≤◌, ◌<◌, max, List, Result, Ok, Err, ltb, length, get_or, replicate}
use Rattle.std.proofs.lemmas.List.Edits.{sets}
use Rattle.units.specs.Limits.{penalty_most, fragments_most, cost_most}
use Rattle.logic.specs.Choice.{pick}
use Rattle.fragments.specs.declared.ListRefusal.{ListRefusal}
use Rattle.fragments.specs.declared.ListRefusal.TheVariants.{Unequal, TooMany, TooWide, BigPenalty, NoRoom, TooDear}
use Rattle.cheapest.specs.Lines.{Falls}
use Rattle.cheapest.specs.Table.{at}
use Rattle.least_cost.specs.declared.Penalties.{Penalties}
use Rattle.least_cost.specs.Price.{target, ending_price, price_at}
use Rattle.least_cost.specs.Layout.{lines_of, ends_after}

-- The penalties are within bounds.
pub record Small (P : Penalties) : Type 0 where
  pub line : P.line ≤ penalty_most
  pub over : P.overflow ≤ penalty_most
  pub part : P.fraction ≤ penalty_most
  pub last : P.short ≤ penalty_most
  pub dash : P.hyphen ≤ penalty_most

-- A line can be priced: where T is wanted, L wide, from i.
pub record Sized (T L i : ℕ) : Type 0 where
  pub target : T ≤ 65535
  pub len : L ≤ 2 ^ 30
  pub from : i < 4096

-- The start i of a line L wide can be priced, by the targets and the costs of the positions.
pub record Priceable (T C : List ℕ) (L i : ℕ) : Type 0 where
  pub sized : Sized (at T i) L i
  pub room : i < length C
  pub cheap : at C i ≤ 2 ^ 50

-- Whether a search goes on can be weighed.
pub record Weighable (widest L cost best : ℕ) : Type 0 where
  pub most : widest ≤ 65535
  pub len : L ≤ 2 ^ 30
  pub cheap : cost ≤ 2 ^ 50
  pub low : best ≤ 2 ^ 51

-- It need not: the overflow beyond the wider of the widest line and the penalty width is dearer than all that a lower start could save.
pub record Hopeless (P : Penalties) (widest L penalty cost best : ℕ) : Type 0 where
  pub over : max widest penalty < L
  pub dear : best + widest * widest + ending_price P penalty < cost + P.overflow * (L - max widest penalty)

-- The three lists have as many numbers as each other, and not too many.
pub record Even (w s p : List ℕ) : Type 0 where
  pub whites : length s ≡ length w
  pub penalties : length p ≡ length w
  pub few : length w ≤ fragments_most

-- Their numbers have 16 bits.
pub record Short (w s p : List ℕ) : Type 0 where
  pub words : (k : ℕ) → get_or w k 0 ≤ 65535
  pub whites : (k : ℕ) → get_or s k 0 ≤ 65535
  pub penalties : (k : ℕ) → get_or p k 0 ≤ 65535

-- What j costs if its last line starts at i, by the costs and the targets of the positions before it.
unfoldable pub start_price : List ℕ → List ℕ → List ℕ → Penalties → List ℕ → List ℕ → ℕ → ℕ → ℕ
start_price w s p P T C j i = at C i + price_at w s p P (at T i) i j

-- Position j can be searched: the costs of the positions before it are known and least, and their targets, none above `widest`.
pub record Ready (w s p : List ℕ) (P : Penalties) (T : List ℕ) (widest : ℕ) (C : List ℕ) (j : ℕ) : Type 0 where
  pub above : 0 < j
  pub within : j ≤ length w
  pub room : j ≤ length C
  pub cheap : (k : ℕ) → k < j → at C k ≤ 2 ^ 50
  pub narrow : (k : ℕ) → k < j → at T k ≤ widest
  pub least : (i k : ℕ) → k < i → i < j → at C i ≤ start_price w s p P T C i k
  pub most : widest ≤ 65535

-- No line wants more.
pub record Widest (ws : List ℕ) (r : ℕ) : Type 0 where
  pub all : (k : ℕ) → target ws k ≤ r
  pub low : r ≤ 65535

-- The search can be begun.
pub record Searchable (w C S : List ℕ) : Type 0 where
  pub costs : length w < length C
  pub starts : length w < length S

-- The table can be filled: the scratch has a place for each position, every target is that of the first line, and the start of position 0 is 0.
pub record Fillable (w ws T N C S : List ℕ) : Type 0 where
  pub costs : length w < length C
  pub starts : length w < length S
  pub long : length T ≡ 4097
  pub wide : length N ≡ 4097
  pub none : at N 0 ≡ 0
  pub targets : (k : ℕ) → k < 4097 → at T k ≡ target ws 0

-- The ends of n fragments can be written: every chosen start is smaller, and there is a place for each line.
pub record Writable (S : List ℕ) (n : ℕ) (E : List ℕ) : Type 0 where
  pub starts : n < length S
  pub falls : Falls (at S) n
  pub few : n ≤ fragments_most
  pub room : n ≤ length E
  pub place : 0 < length E

-- What is left of a scratch list after the last step, by its answer: zero up to n where the cost is too high.
abbrev pub cleared_by : Result ℕ ListRefusal → ℕ → List ℕ → List ℕ
cleared_by (Ok k) n l = l
cleared_by (Err Unequal) n l = l
cleared_by (Err TooMany) n l = l
cleared_by (Err (TooWide i)) n l = l
cleared_by (Err (BigPenalty i)) n l = l
cleared_by (Err (NoRoom k)) n l = l
cleared_by (Err TooDear) n l = sets l 0 (replicate (n + 1) 0)

-- The last step: its answer r, and the lists of ends, costs and starts before and after it.
pub record Finished (n : ℕ) (E C S : List ℕ) (r : Result ℕ ListRefusal) (E' C' S' : List ℕ) : Type 0 where
  pub answer : r ≡ pick (ltb cost_most (at C n)) (Err TooDear) (Ok (length (lines_of (at S) n)))
  pub ends : E' ≡ ends_after r (lines_of (at S) n) E
  pub costs : C' ≡ cleared_by r n C
  pub starts : S' ≡ cleared_by r n S
