-- Texts: bytes are written from at most one text.
use Prim.Native.Nat.{ℕ, ◌≤◌}
use native.Mathlib.Omega.{arith}
use mathlib.Core.Path.{◌≡◌, refl, sym, ap, ◌∙◌, subst}
use mathlib.Core.Bool.{Bool, true, false, cond, and-eq-true_iff, true≢false}
use mathlib.Core.List.{List, [], ◌∷◌, ◌++◌, append_assoc, cons≢nil}
use lib.ListN.{length, get_or, drop, length-append}
use lib.Dec.{eqb}
use borrow.Author.Tests.{eqb-true, eq-eqb}
use Rattle.paper.specs.Bytes.{bytes, same, spell, raw, all}
use Rattle.paper.specs.Tree.{Text}
use Rattle.paper.specs.Layout.{text}

pub same_is : (v w : List ℕ) → same v w ≡ true → v ≡ w
same_is [] [] e = refl
same_is [] (b ∷ w) e = absurd (let z : ◌≡◌ {A = ℕ} 0 1 = cc in omega arith)
same_is (a ∷ v) [] e = absurd (let z : ◌≡◌ {A = ℕ} 0 1 = cc in omega arith)
same_is (a ∷ v) (b ∷ w) e =
    let k = (and-eq-true_iff (eqb a b) (same v w)).0 e in
    let h = eqb-true a b k.0 in
    let t = same_is v w k.1 in
    λ i. h i ∷ t i

pub same_self : (w : List ℕ) → same w w ≡ true
same_self [] = refl
same_self (b ∷ w) = rw (eq-eqb b b refl, same_self w)

-- two texts that differ are not one
pub apart : {v w : List ℕ} → same v w ≡ false → ¬ (v ≡ w)
apart {v} d e = true≢false (sym (same_self v) ∙ ap (same v) e ∙ d)

-- what the first character of a written text is, and what follows it
abbrev pub unspell : List ℕ → ℕ × List ℕ
unspell w =
    cond (eqb (get_or w 0 0) 38)
    (cond (eqb (get_or w 1 0) 108) (60, drop 4 w)
    (cond (eqb (get_or w 1 0) 103) (62, drop 4 w)
    (cond (eqb (get_or w 1 0) 113) (34, drop 6 w)
    (cond (eqb (get_or w 2 0) 109) (38, drop 5 w) (39, drop 6 w)))))
    (get_or w 0 0, drop 1 w)

-- what holds of each of the five characters as it is written, and of every other one as itself, holds of each
pub spell_cases : (P : ℕ → List ℕ → Type 0)
    → P 60 (bytes "&lt;") → P 62 (bytes "&gt;") → P 38 (bytes "&amp;") → P 34 (bytes "&quot;") → P 39 (bytes "&apos;")
    → ((b : ℕ) → eqb b 60 ≡ false → eqb b 62 ≡ false → eqb b 38 ≡ false → eqb b 34 ≡ false → eqb b 39 ≡ false → P b (b ∷ []))
    → (b : ℕ) → P b (spell b)
spell_cases P lt gt amp quot apos other b = by_lt (eqb b 60) refl
  where
    is : (c : ℕ) → eqb b c ≡ true → P c (spell c) → P b (spell b)
    is c e h = subst (λ (k : ℕ). P k (spell k)) (sym (eqb-true b c e)) h

    by_apos : eqb b 60 ≡ false → eqb b 62 ≡ false → eqb b 38 ≡ false → eqb b 34 ≡ false → (t : Bool) → eqb b 39 ≡ t → P b (spell b)
    by_apos e f g h true k = is 39 k apos
    by_apos e f g h false k = rw (e, f, g, h, k) (other b e f g h k)

    by_quot : eqb b 60 ≡ false → eqb b 62 ≡ false → eqb b 38 ≡ false → (t : Bool) → eqb b 34 ≡ t → P b (spell b)
    by_quot e f g true h = is 34 h quot
    by_quot e f g false h = by_apos e f g h (eqb b 39) refl

    by_amp : eqb b 60 ≡ false → eqb b 62 ≡ false → (t : Bool) → eqb b 38 ≡ t → P b (spell b)
    by_amp e f true g = is 38 g amp
    by_amp e f false g = by_quot e f g (eqb b 34) refl

    by_gt : eqb b 60 ≡ false → (t : Bool) → eqb b 62 ≡ t → P b (spell b)
    by_gt e true f = is 62 f gt
    by_gt e false f = by_amp e f (eqb b 38) refl

    by_lt : (t : Bool) → eqb b 60 ≡ t → P b (spell b)
    by_lt true e = is 60 e lt
    by_lt false e = by_gt e (eqb b 62) refl

pub unspell_spell : (b : ℕ) (r : List ℕ) → unspell (spell b ++ r) ≡ (b, r)
unspell_spell b r =
    spell_cases (λ (c : ℕ) (w : List ℕ). unspell (w ++ r) ≡ (c, r)) refl refl refl refl refl (λ c e f g h k. rw g refl) b

pub all_append : (f : ℕ → Bool) (u v : List ℕ) → all f u → all f v → all f (u ++ v)
all_append f [] v h k = k
all_append f (b ∷ u) v h k = (h.0, all_append f u v h.1 k)

-- what every character is written with, a text is written with
pub raw_all : (f : ℕ → Bool) → ((b : ℕ) → all f (spell b)) → (v : List ℕ) → all f (raw v)
raw_all f h [] = tt
raw_all f h (b ∷ v) = all_append f (spell b) (raw v) (h b) (raw_all f h v)

pub front_empty : (u v : List ℕ) → u ++ v ≡ [] → u ≡ []
front_empty [] v e = refl
front_empty (a ∷ u) v e = absurd (cons≢nil e)

-- a character is written as one byte or more
pub spell_some : (b : ℕ) (r : List ℕ) → spell b ++ r ≡ [] → ⊥
spell_some b r e =
    let q : ◌≡◌ {A = ℕ × List ℕ} (7, []) (b, 7 ∷ []) = rw (front_empty (spell b) r e) at (unspell_spell b (7 ∷ [])) in
    cons≢nil (sym (ap (λ (x : ℕ × List ℕ). x.1) q))

-- a text is written with at least as many bytes as it has characters
pub raw_longer : (v : List ℕ) → length v ≤ length (raw v)
raw_longer [] = omega arith
raw_longer (b ∷ v) = omega (arith, raw_longer v, length-append (spell b) (raw v), some (spell b) (λ e. spell_some b [] (ap (λ (w : List ℕ). w ++ []) e)))
  where
    some : (w : List ℕ) → ¬ (w ≡ []) → 1 ≤ length w
    some [] n = absurd (n refl)
    some (c ∷ w) n = omega arith

-- a written text is read in one way
pub raw_once : (v w : List ℕ) → raw v ≡ raw w → v ≡ w
raw_once [] [] e = refl
raw_once [] (c ∷ w) e = absurd (spell_some c (raw w) (sym e))
raw_once (b ∷ v) [] e = absurd (spell_some b (raw v) e)
raw_once (b ∷ v) (c ∷ w) e =
    let q : ◌≡◌ {A = ℕ × List ℕ} (b, raw v) (c, raw w) = sym (unspell_spell b (raw v)) ∙ ap unspell e ∙ unspell_spell c (raw w) in
    let h : b ≡ c = ap (λ (x : ℕ × List ℕ). x.0) q in
    let t : v ≡ w = raw_once v w (ap (λ (x : ℕ × List ℕ). x.1) q) in
    λ i. h i ∷ t i

pub raw_append : (u z : List ℕ) → raw (u ++ z) ≡ raw u ++ raw z
raw_append [] z = refl
raw_append (b ∷ u) z = ap (λ (l : List ℕ). spell b ++ l) (raw_append u z) ∙ sym (append_assoc (spell b) (raw u) (raw z))

-- a text has at most one reading
pub text_once : (allowed : ℕ → Bool) {at : ℕ} {w : List ℕ} (t u : Text ℕ) → text allowed t at w → text allowed u at w → t ≡ u
text_once allowed t u a b =
    let p : t.place ≡ u.place = a.0 ∙ sym b.0 in
    let r : t.read ≡ u.read = raw_once t.read u.read (sym a.2 ∙ b.2) in
    λ i. record { place = p i; read = r i }
