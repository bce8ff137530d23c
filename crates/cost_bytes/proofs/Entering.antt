-- The entry: by what its tests say, the search is begun or nothing changes.
use Rattle.std.proofs.Common.{Option, Result, Ok, Err}
use mathlib.Core.Path.{◌≡◌, sym, ◌∙◌}
use mathlib.Core.List.{List}
use Prim.Native.Nat.{ℕ}
use lib.ListN.{length}
use Rattle.logic.specs.Flat.{flat}
use Rattle.wire.specs.Wire.{be16, be64, places16, places64}
use Rattle.fragments.specs.declared.ListRefusal.{ListRefusal}
use Rattle.fragments.specs.Lists.{found, list_test}
use Rattle.least_cost.specs.declared.Penalties.{Penalties}
use Rattle.least_cost.specs.Layout.{first_big, admission_of, costs_of, starts_of, ends_of_lines, laid_of}
use Rattle.least_cost.proofs.Laying.{shut_keeps}
use Rattle.cost_bytes.specs.Bytes.{LaidBytes, admitted, Begun}

module _ (w s p ws : List ℕ) (P : Penalties) (E C S : List ℕ) {n ends costs starts : ℕ} {big : Option ℕ} {t d : Result (Unit {0}) ListRefusal} (en : n ≡ length w)
    (et : t ≡ list_test w s p ws) (ebig : big ≡ found (first_big P) 5) (ee : ends ≡ places16 E) (ec : costs ≡ places64 C) (es : starts ≡ places16 S) (ed : d ≡ admission_of t big n ends costs starts) where
  told : d ≡ admitted w s p ws P (places16 E) (places64 C) (places16 S)
  unfolding admitted
  told = rw (← et, ← ebig, ← en, ← ee, ← ec, ← es) ed

  pub begun_by : d ≡ Ok tt → Begun w s p ws P E C S
  begun_by o = record { begun = sym told ∙ o }

  pub shut_by : {r : Result ℕ ListRefusal} (why : ListRefusal) → d ≡ Err why → r ≡ Err why → LaidBytes w s p ws P E C S r E C S
  unfolding laid_of admitted
  shut_by why h q =
      let e = sym h ∙ told in
      let k = shut_keeps _ _ _ _ _ _ _ _ _ why e in
      rw q (record {
        answer = rw (← e);
        ends = (k (flat be16 (ends_of_lines w s p ws P)) E).0;
        costs = (k (flat be64 (costs_of w s p ws P)) C).1;
        starts = (k (flat be16 (starts_of w s p ws P)) S).1;
      })
