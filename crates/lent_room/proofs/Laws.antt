-- Content stored in a room, one behind another; and how far texts begin alike.
use Prim.Native.Nat.{ℕ, suc, ◌+◌, ◌-◌, ◌≤◌, ◌<◌}
use native.Mathlib.Nat.{add-zero}
use native.Mathlib.Omega.{arith}
use mathlib.Core.Path.{◌≡◌, refl, sym, ap, ◌∙◌}
use mathlib.Core.Bool.{Bool, true, false, cond}
use mathlib.Core.List.{List, [], ◌∷◌, ◌++◌, append-nil}
use lib.ListN.{length, take, drop, set, length-append, length-drop, take-append-drop, drop_of_length-le}
use lib.Seq.{sets, sets-eq, set_comm, length-take-le, take_all, take_at}
use lib.Dec.{eqb}
use borrow.Author.Tests.{eqb-true, eq-eqb}
use Rattle.paper.specs.Bytes.{bytes}
use Rattle.paper.specs.Answers.{front}
use Rattle.paper.specs.Index.{little_end, agree}
use Rattle.lent_room.specs.Room.{Puts}

-- ---- one behind another

pub sets_append : (x y room : List ℕ) (at : ℕ) → sets (sets room at x) (at + length x) y ≡ sets room at (x ++ y)
sets_append [] y room at = ap (λ (k : ℕ). sets room k y) (add-zero at)
sets_append (a ∷ x) y room at =
    let e : at + suc (length x) ≡ suc at + length x = omega arith in
    rw e (sets_append x y (set room at a) (suc at))

-- side by side: the order doesn't matter
pub sets_swap : (x y room : List ℕ) (i j : ℕ) → i + length x ≤ j → sets (sets room i x) j y ≡ sets (sets room j y) i x
sets_swap [] y room i j h = refl
sets_swap (a ∷ x) y room i j h =
    sets_swap x y (set room i a) (suc i) j (omega (arith, h)) ∙ ap (λ (z : List ℕ). sets z (suc i) x) (one y room j (omega (arith, h)))
  where
    one : (y room : List ℕ) (j : ℕ) → i < j → sets (set room i a) j y ≡ set (sets room j y) i a
    one [] room j l = refl
    one (b ∷ y) room j l =
        ap (λ (z : List ℕ). sets z (suc j) y) (set_comm room i j a b (λ e. omega (arith, e, l))) ∙ one y (set room j b) (suc j) (omega (arith, l))

-- at the front
pub sets_front : (x room : List ℕ) → length x ≤ length room → sets room 0 x ≡ front x room
sets_front x room h =
    let e : 0 + length x ≡ length x = omega arith in
    rw e at (sets-eq x room 0 (omega (arith, h)))

-- what stands before the end of x
pub sets_take : (x room : List ℕ) (at : ℕ) → at + length x ≤ length room → take (at + length x) (sets room at x) ≡ take at room ++ x
sets_take x room at h =
    let l : length (take at room ++ x) ≡ at + length x = length-append (take at room) x ∙ omega (arith, length-take-le at room (omega (arith, h))) in
    ap (take (at + length x)) (sets-eq x room at h)
    ∙ take_at (take at room ++ x) (drop (at + length x) room) (at + length x) l

-- behind a
pub sets_behind : (a z y : List ℕ) (i : ℕ) → sets (a ++ z) (length a + i) y ≡ a ++ sets z i y
sets_behind a z [] i = refl
sets_behind a z (b ∷ y) i =
    let e : suc (length a + i) ≡ length a + suc i = omega arith in
    rw (e, one a) (sets_behind a (set z i b) y (suc i))
  where
    one : (a : List ℕ) → set (a ++ z) (length a + i) b ≡ a ++ set z i b
    one [] = ap (λ (k : ℕ). set z k b) (omega arith)
    one (c ∷ a) = let e : suc (length a) + i ≡ suc (length a + i) = omega arith in rw e (ap (λ (l : List ℕ). c ∷ l) (one a))

-- the room from `end` on, as it is lent
abbrev pub lent : List ℕ → ℕ → List ℕ
lent out end = take (length out - end) (drop end out)

-- the room when that comes back as ys
abbrev pub back : List ℕ → ℕ → List ℕ → List ℕ
back out end ys = take end out ++ (ys ++ drop (length out - end) (drop end out))

module _ (out : List ℕ) (end : ℕ) (h : end ≤ length out) where
  lent_is : lent out end ≡ drop end out
  lent_is = take_all (length out - end) (drop end out) (omega (arith, length-drop end out))

  pub length_lent : length (lent out end) ≡ length out - end
  length_lent = ap length lent_is ∙ length-drop end out

  back_is : (ys : List ℕ) → back out end ys ≡ take end out ++ ys
  back_is ys =
      ap (λ (r : List ℕ). take end out ++ (ys ++ r)) (drop_of_length-le (drop end out) {i = length out - end} (omega (arith, length-drop end out)))
      ∙ ap (◌++◌ (take end out)) (append-nil ys)

  pub length_back : (ys : List ℕ) → length ys ≡ length (lent out end) → length (back out end ys) ≡ length out
  length_back ys e =
      ap length (back_is ys) ∙ omega (arith, length-append (take end out) ys, length-take-le end out h, e, length_lent, h)

  -- y at the front of what was lent stands behind what was there
  pub puts_lent : {r : ℕ} {ys y : List ℕ} → Puts 0 y (lent out end) r ys → Puts end y out (end + r) (back out end ys)
  puts_lent {r} {ys} {y} p =
      let l : length (take end out) + 0 ≡ end = omega (arith, length-take-le end out h) in
      record {
        ends = omega (arith, p.ends);
        is = back_is ys
            ∙ ap (◌++◌ (take end out)) (p.is ∙ ap (λ (z : List ℕ). sets z 0 y) lent_is)
            ∙ sym (sets_behind (take end out) (drop end out) y 0)
            ∙ ap (λ (k : ℕ). sets (take end out ++ drop end out) k y) l
            ∙ ap (λ (z : List ℕ). sets z end y) (take-append-drop end out);
      }

module _ {at : ℕ} {room : List ℕ} where
  pub puts_none : Puts at [] room at room
  puts_none = record { ends = omega arith; is = refl }

  pub puts_next : {m e : ℕ} {mid after x y : List ℕ} → Puts at x room m mid → Puts m y mid e after → Puts at (x ++ y) room e after
  puts_next {x = x} {y = y} f g =
      record {
        ends = omega (arith, f.ends, g.ends, length-append x y);
        is = g.is ∙ rw (f.is, f.ends) (sets_append x y room at);
      }

-- ---- beginnings

-- x is passed, and then comes y
pub agree_on : (x y z : List ℕ) → agree x z ≡ length x → agree (x ++ y) z ≡ length x + agree y (drop (length x) z)
agree_on [] y z e = omega arith
agree_on (a ∷ x) y [] e = absurd (omega (arith, e))
agree_on (a ∷ x) y (b ∷ z) e = go (eqb a b) (agree_on x y z) e
  where
    go : (t : Bool) → (agree x z ≡ length x → agree (x ++ y) z ≡ length x + agree y (drop (length x) z)) → cond t (suc (agree x z)) 0 ≡ suc (length x)
        → cond t (suc (agree (x ++ y) z)) 0 ≡ suc (length x) + agree y (drop (length x) z)
    go true h k = omega (arith, h (omega (arith, k)))
    go false h k = absurd (omega (arith, k))

-- they differ in x already
pub agree_off : (x y z : List ℕ) → agree x z < length x → agree (x ++ y) z ≡ agree x z
agree_off [] y z h = absurd (omega arith)
agree_off (a ∷ x) y [] h = refl
agree_off (a ∷ x) y (b ∷ z) h = go (eqb a b) (agree_off x y z) h
  where
    go : (t : Bool) → (agree x z < length x → agree (x ++ y) z ≡ agree x z) → cond t (suc (agree x z)) 0 < suc (length x)
        → cond t (suc (agree (x ++ y) z)) 0 ≡ cond t (suc (agree x z)) 0
    go true h k = ap suc (h (omega (arith, k)))
    go false h k = refl

-- a text begins with all of itself, and so does no other of its length
pub agree_self : (x : List ℕ) → agree x x ≡ length x
agree_self [] = refl
agree_self (a ∷ x) = rw (eq-eqb a a refl) (ap suc (agree_self x))

pub agree_whole : (x y : List ℕ) → agree x y ≡ length x → length y ≤ length x → y ≡ x
agree_whole [] [] e l = refl
agree_whole [] (b ∷ y) e l = absurd (omega (arith, l))
agree_whole (a ∷ x) [] e l = absurd (omega (arith, e))
agree_whole (a ∷ x) (b ∷ y) e l = go (eqb a b) refl (agree_whole x y) e
  where
    go : (t : Bool) → eqb a b ≡ t → (agree x y ≡ length x → length y ≤ length x → y ≡ x) → cond t (suc (agree x y)) 0 ≡ suc (length x) → b ∷ y ≡ a ∷ x
    go true h r k = let i = sym (eqb-true a b h) in let j = r (omega (arith, k)) (omega (arith, l)) in λ t. i t ∷ j t
    go false h r k = absurd (omega (arith, k))

-- ---- the definitions tried

-- the first differing place, or the shorter length
apart : (agree (bytes "verdict") (bytes "verdant") ≡ 4) × (agree (bytes "join") (bytes "join(") ≡ 4) × (agree (bytes "join(") (bytes "join") ≡ 4)
apart = (refl, refl, refl)

little : (little_end 16909060 ≡ 4 ∷ 3 ∷ 2 ∷ 1 ∷ []) × (little_end 4294967295 ≡ 255 ∷ 255 ∷ 255 ∷ 255 ∷ [])
little = (refl, refl)
