-- A part has bytes, and no others.
use Prim.Native.Nat.{ℕ, ◌+◌, ◌-◌, ◌≤◌, ◌<◌}
use native.Mathlib.Omega.{arith}
use native.Mathlib.Decide.{dec_le}
use mathlib.Core.Path.{◌≡◌, refl, sym, ap, ◌∙◌, subst}
use mathlib.Core.Logic.{◌⊎◌, inl, inr}
use mathlib.Core.List.{List, [], ◌∷◌, ◌++◌}
use lib.ListN.{length, take, drop, take-append-drop, length-append, length-drop}
use lib.Seq.{take-append_seam, take_all, length-take-le, drop-drop}
use Rattle.read_steps.specs.Parts.{ShowsBytes}

-- where the place is not within s nothing is written there
pub shows_none : {s : List ℕ} {from to : ℕ} → (length s < to) ⊎ (to < from) → ShowsBytes s from to []
shows_none {s} {from} {to} h = record { is = λ w e z. empty w e z h; none = λ k. refl }
  where
    empty : (w : List ℕ) → drop from s ≡ w ++ drop to s → to ≡ from + length w → (length s < to) ⊎ (to < from) → [] ≡ w
    empty [] e z h = refl
    empty (b ∷ w) e z (inl h) = absurd (omega (arith, z, length-drop from s, ap length e, length-append w (drop to s)))
    empty (b ∷ w) e z (inr h) = absurd (omega (arith, z, h))

module _ {s : List ℕ} {from to : ℕ} (h : from ≤ to) (k : to ≤ length s) where
  pub shows_part : ShowsBytes s from to (take (to - from) (drop from s))
  shows_part =
      record {
        is =
            λ w e z.
            let n : to - from ≡ length w = omega (arith, z) in
            ap (take (to - from)) e ∙ ap (λ (i : ℕ). take i (w ++ drop to s)) n ∙ take-append_seam w (drop to s);
        none = λ l. within l;
      }
    where
      within : {r : List ℕ} → (length s < to) ⊎ (to < from) → r ≡ []
      within (inl l) = absurd (omega (arith, l, k))
      within (inr l) = absurd (omega (arith, l, h))

  only_part : {r : List ℕ} → ShowsBytes s from to r → r ≡ take (to - from) (drop from s)
  only_part x =
      let n : from + (to - from) ≡ to = omega (arith, h) in
      let size = length-take-le (to - from) (drop from s) (omega (arith, h, k, length-drop from s)) in
      x.is (take (to - from) (drop from s))
      (sym (take-append-drop (to - from) (drop from s)) ∙ ap (λ (l : List ℕ). take (to - from) (drop from s) ++ l) (drop-drop (to - from) from s ∙ ap (λ (i : ℕ). drop i s) n))
      (omega (arith, h, size))

-- whatever the places are
pub shows_any : (s : List ℕ) (from to : ℕ) → (w : List ℕ) × ShowsBytes s from to w
shows_any s from to = go (dec_le to (length s)) (dec_le from to)
  where
    go : Dec (to ≤ length s) → Dec (from ≤ to) → (w : List ℕ) × ShowsBytes s from to w
    go (no l) m = ([], shows_none (inl (omega arith)))
    go (yes l) (no m) = ([], shows_none (inr (omega arith)))
    go (yes l) (yes m) = (take (to - from) (drop from s), shows_part m l)

pub shows_once : {s r q : List ℕ} {from to : ℕ} → ShowsBytes s from to r → ShowsBytes s from to q → r ≡ q
shows_once {s} {r} {q} {from} {to} x y = go (dec_le to (length s)) (dec_le from to)
  where
    go : Dec (to ≤ length s) → Dec (from ≤ to) → r ≡ q
    go (no l) m = x.none (inl (omega arith)) ∙ sym (y.none (inl (omega arith)))
    go (yes l) (no m) = x.none (inr (omega arith)) ∙ sym (y.none (inr (omega arith)))
    go (yes l) (yes m) = only_part m l x ∙ sym (only_part m l y)

-- all of it
pub shows_whole : (s : List ℕ) → ShowsBytes s 0 (length s) s
shows_whole s = subst (ShowsBytes s 0 (length s)) (take_all (length s - 0) s (omega arith)) (shows_part (omega arith) (omega arith))
