-- Two contents laid side by side in one room: the contents of an index from 0 on, and its bodies from `start` on.
use Rattle.std.proofs.Common.{◌≡◌, ℕ, ◌+◌, ◌≤◌, List, [], ◌++◌, length, sym, refl, ap, ◌∙◌, subst, arith, length-append}
use lib.Seq.{sets, length-sets}
use Rattle.std.specs.Prelude.{Ok, Err}
use Rattle.std.specs.Result.{result_and}
use Rattle.lent_room.specs.Room.{Laid, Agrees, same, Lays}
use Rattle.lent_room.specs.declared.Pass.{Pass}
use Rattle.lent_room.specs.declared.Pass.TheVariants.{Measure, Write, Compare}
use Rattle.lent_room.proofs.Laws.{sets_append, sets_swap}
use Rattle.lent_room.proofs.Passes.{lays_compared, lays_next, lays_off, agrees_end}
use Rattle.index_walk.specs.Bodies.{IndexLaid}

-- so much fits, if it is written
abbrev pub Roomy : Pass → (size room : ℕ) → Type 0
Roomy Measure size room = Unit {0}
Roomy Write size room = size ≤ room
Roomy Compare size room = Unit {0}

pub roomy_less : (p : Pass) (a b room : ℕ) → a ≤ b → Roomy p b room → Roomy p a room
roomy_less Measure a b room h r = tt
roomy_less Write a b room h r = omega (arith, h, r)
roomy_less Compare a b room h r = tt

module _ (given room : List ℕ) (start : ℕ) where
  -- a and b are laid: how either ends, and the room now
  pub data Sides (a b : List ℕ) : Pass → Laid → Laid → List ℕ → Type 0 where
    measured : {c r : Laid} {now : List ℕ} → Sides a b Measure c r now
    written : Sides a b Write (Ok (0 + length a)) (Ok (start + length b)) (sets (sets room 0 a) start b)
    compared : {c r : Laid} → Agrees a 0 given c → Agrees b start given r → Sides a b Compare c r room

  -- they fit, if they are written
  abbrev pub Fit : Pass → (a b : List ℕ) → Type 0
  Fit p a b = (length a ≤ start) × Roomy p (start + length b) (length room)

  -- the first, and nothing of the second
  pub sides_first : {a now : List ℕ} {p : Pass} {c : Laid} → Fit p a [] → Lays given 0 a room p c now → Sides a [] p c (Ok start) now
  sides_first {a} f (Lays.measured x) = measured
  sides_first {a} f (Lays.written h) = subst (λ (n : ℕ). Sides a [] Write (Ok (0 + length a)) (Ok n) (sets room 0 a)) (omega arith) written
  sides_first {a} f (Lays.short h k) = absurd (omega (arith, h, f.0, f.1))
  sides_first {a} {c = c} f (Lays.compared x) = subst (λ (n : ℕ). Sides a [] Compare c (Ok n) room) (omega arith) (compared x (same refl))

  -- y behind the second
  pub sides_second : {a b y : List ℕ} {p : Pass} {c r r' : Laid} {now after : List ℕ} → Fit p a (b ++ y) → Sides a b p c r now
      → ((at : ℕ) (x before : List ℕ) → Lays given at x before p r now → Lays given at (x ++ y) before p r' after) → Sides a (b ++ y) p c r' after
  sides_second f measured l = measured
  sides_second {a} {b} {y} f written l =
      let z = length-sets room 0 a in
      go (l start b (sets room 0 a) (Lays.written (omega (arith, z, length-append b y, f.1))))
    where
      go : {r : Laid} {after : List ℕ} → Lays given start (b ++ y) (sets room 0 a) Write r after → Sides a (b ++ y) Write (Ok (0 + length a)) r after
      go (Lays.written h) = written
      go (Lays.short h k) = absurd (omega (arith, h, length-sets room 0 a, f.1))
  sides_second {a} {b} {y} {c = c} {r' = r'} f (compared x z) l =
      let k = lays_compared (l start b room (Lays.compared z)) in
      subst (Sides a (b ++ y) Compare c r') (sym k.1) (compared x k.0)

  -- y behind the first
  pub sides_more : {a b y : List ℕ} {p : Pass} {c c' r : Laid} {now after : List ℕ} → Fit p (a ++ y) b → Sides a b p c r now
      → ((at : ℕ) (x before : List ℕ) → Lays given at x before p c now → Lays given at (x ++ y) before p c' after) → Sides (a ++ y) b p c' r after
  sides_more f measured l = measured
  sides_more {a} {b} {y} f written l =
      let z = length-sets room start b in
      let e = sets_swap a b room 0 start (omega (arith, length-append a y, f.0)) in
      go (l 0 a (sets room start b) (subst (Lays given 0 a (sets room start b) Write (Ok (0 + length a))) (sym e) (Lays.written (omega (arith, z, length-append a y, f.0, f.1)))))
    where
      go : {c : Laid} {after : List ℕ} → Lays given 0 (a ++ y) (sets room start b) Write c after → Sides (a ++ y) b Write c (Ok (start + length b)) after
      go (Lays.written h) =
          subst (Sides (a ++ y) b Write (Ok (0 + length (a ++ y))) (Ok (start + length b))) (sets_swap (a ++ y) b room 0 start (omega (arith, f.0))) written
      go (Lays.short h k) = absurd (omega (arith, h, length-sets room start b, f.0, f.1))
  sides_more {a} {b} {y} {c' = c'} {r = r} f (compared x z) l =
      let k = lays_compared (l 0 a room (Lays.compared x)) in
      subst (Sides (a ++ y) b Compare c' r) (sym k.1) (compared k.0 z)

  -- both, where the second starts behind the first: where the first stopped, else how the second ends
  pub sides_both : {a b now : List ℕ} {p : Pass} (c r : Laid) → start ≡ length a → Sides a b p c r now → IndexLaid p (a ++ b) given room (result_and c r) now
  sides_both c r e measured = tt
  sides_both {a} {b} c r e written = λ l. ap (λ (k : ℕ). sets (sets room 0 a) k b) (omega (arith, e)) ∙ sets_append a b room 0
  sides_both {a} {b} (Ok m) r e (compared x z) =
      let k : start ≡ m = omega (arith, e, agrees_end x) in
      let y = subst (λ (k : ℕ). Agrees b k given r) k z in
      (lays_compared (lays_next {room = room} (Lays.compared x) (Lays.compared y))).0
  sides_both {a} {b} (Err t) r e (compared x z) = (lays_compared (lays_off {room = room} b (Lays.compared x))).0
