-- The model where a sign, a word or a mark is lacking.
use Prim.Native.Nat.{ℕ}
use Prim.Native.Char.{code}
use mathlib.Core.Path.{◌≡◌, refl, ap}
use mathlib.Core.Bool.{Bool, true, false}
use mathlib.Core.Option.{some}
use mathlib.Core.List.{List, [], ◌∷◌}
use lib.Dec.{eqb}
use borrow.Author.Tests.{eqb-true, ne_eqb}
use Rattle.paper.specs.Bytes.{bytes}
use Rattle.paper.specs.Locations.{range}
use Rattle.paper.proofs.Locate.Model.{then, num, lone, second, tail, plain, piece}
use Rattle.location_judge.proofs.Stand.{Lacks}

pub unlike : (a b : ℕ) (w : List ℕ) → Lacks (a ∷ []) (b ∷ w) → eqb b a ≡ false
unlike a b w h = ne_eqb b a (λ e. h w (ap (λ (c : ℕ). c ∷ w) e))

pub tail_else : (less : Bool) (x : ℕ) (w : List ℕ) → Lacks (bytes "..") w → tail less x w ≡ some (lone less x, w)
tail_else less x [] h = refl
tail_else less x (a ∷ []) h = refl
tail_else less x (a ∷ b ∷ w) h = go (eqb a (code ".")) refl (eqb b (code ".")) refl
  where
    go : (p : Bool) → eqb a (code ".") ≡ p → (q : Bool) → eqb b (code ".") ≡ q → tail less x (a ∷ b ∷ w) ≡ some (lone less x, a ∷ b ∷ w)
    go false e _ _ = rw e
    go true e false f = rw (e, f)
    go true e true f = absurd (h w (λ i. eqb-true a (code ".") e i ∷ eqb-true b (code ".") f i ∷ w))

pub second_else : (less : Bool) (x : ℕ) (w : List ℕ) → Lacks (bytes ">") w → second less x w ≡ then (num w) (λ y r. some (range less x false y, r))
second_else less x [] h = refl
second_else less x (b ∷ w) h = rw (unlike (code ">") b w h)

pub plain_else : (x : ℕ) (w : List ℕ) → Lacks (bytes "^") w → plain x w ≡ tail false x w
plain_else x [] h = refl
plain_else x (a ∷ w) h = rw (unlike (code "^") a w h)

pub piece_else : (w : List ℕ) → Lacks (bytes ">") w → Lacks (bytes "<") w → piece w ≡ then (num w) plain
piece_else [] h k = refl
piece_else (b ∷ w) h k = rw (unlike (code ">") b w h, unlike (code "<") b w k)
