-- A loop that says something part by part: what it said and what is still to come are all of it.
use mathlib.Core.Path.{◌≡◌, refl, sym, ap, ◌∙◌}
use mathlib.Core.List.{List, [], ◌++◌, append-nil, append_assoc}
use Prim.Native.Nat.{ℕ, ◌≤◌}
use lib.ListN.{length}
use Rattle.saying.specs.declared.Line.{Line}
use Rattle.saying.specs.Saying.{Said}
use Rattle.saying.proofs.Laws.{said_none, said_then}

pub record Telling (l : Line) (all rest : List ℕ) (m : Line) : Type 0 where
  pub done : List ℕ
  pub said : Said l done m
  pub same : done ++ rest ≡ all

pub telling_start : (l : Line) (all : List ℕ) → l.len ≤ length l.room.now → Telling l all all l
telling_start l all h = record { done = []; said = said_none l h; same = refl }

pub telling_step : {l m n : Line} {all rest : List ℕ} (part more : List ℕ) → Telling l all rest m → Said m part n → rest ≡ part ++ more → Telling l all more n
telling_step {l} {m} {n} {all} {rest} part more k s e = record {
  done = k.done ++ part;
  said = said_then k.said s;
  same = append_assoc k.done part more ∙ ap (λ b. k.done ++ b) (sym e) ∙ k.same;
}

pub telling_end : {l m : Line} {all rest : List ℕ} → Telling l all rest m → rest ≡ [] → Said l all m
telling_end {l} {m} {all} {rest} k e =
    let z : k.done ≡ all = sym (append-nil k.done) ∙ ap (λ b. k.done ++ b) (sym e) ∙ k.same in
    rw z at k.said
