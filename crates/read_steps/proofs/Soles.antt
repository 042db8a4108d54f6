-- A text of a form, before what may follow it, is of one value and ends at one place: two readings of the same bytes are one.
use Prim.Native.Nat.{ℕ, ◌+◌}
use native.Mathlib.Omega.{arith}
use mathlib.Core.Path.{◌≡◌, refl, sym, ap, ◌∙◌, subst}
use mathlib.Core.Bool.{Bool, true, false}
use mathlib.Core.Logic.{inl, inr}
use mathlib.Core.Option.{none, some}
use mathlib.Core.List.{List, [], ◌∷◌, ◌++◌, append_assoc, append_cancel_left}
use lib.ListN.{length}
use Rattle.paper.specs.Bytes.{all}
use Rattle.paper.specs.Form.{Form, these, run, one, ◌·◌, ◌∪◌, maybe, each, each⁺}
use Rattle.read_steps.specs.Follow.{Not}
use Rattle.read_steps.proofs.Fronts.{false_true}

abbrev pub Sole : {A : Type 0} → (A → Form) → (List ℕ → Type 0) → Type 0
Sole {A} L F = (a b : A) (at : ℕ) (w x z y : List ℕ) → L a at w → L b at x → F z → F y → w ++ z ≡ x ++ y → (a ≡ b) × (w ≡ x)

-- the same for a form without a value
abbrev pub Sure : Form → (List ℕ → Type 0) → Type 0
Sure P F = (at : ℕ) (w x z y : List ℕ) → P at w → P at x → F z → F y → w ++ z ≡ x ++ y → w ≡ x

pub sure_these : (k : List ℕ) (F : List ℕ → Type 0) → Sure (these k) F
sure_these k F at w x z y p q f g e = p ∙ sym q

pub sure_one : (f : ℕ → Bool) (F : List ℕ → Type 0) → Sure (one f) F
sure_one f F at w x z y p q g h e =
    let k : p.0 ∷ z ≡ q.0 ∷ y = ap (λ (u : List ℕ). u ++ z) (sym p.1) ∙ e ∙ ap (λ (u : List ℕ). u ++ y) q.1 in
    let b : p.0 ≡ q.0 = cc in
    p.1 ∙ ap (λ (c : ℕ). c ∷ []) b ∙ sym q.1

-- the longest run is the only one
pub sure_run : (f : ℕ → Bool) → Sure (run f) (Not f)
sure_run f at w x z y p q g h e = go w x z y p q g h e
  where
    clash : (b c : ℕ) → b ≡ c → f b ≡ true → f c ≡ false → ⊥
    clash b c e p q = false_true (sym q ∙ ap f (sym e) ∙ p)

    go : (w x z y : List ℕ) → all f w → all f x → Not f z → Not f y → w ++ z ≡ x ++ y → w ≡ x
    go [] [] z y p q g h e = refl
    go [] (c ∷ x) [] y p q g h e = absurd (let n : ◌≡◌ {A = ℕ} 0 1 = cc in omega arith)
    go [] (c ∷ x) (d ∷ z) y p q g h e = absurd (clash c d (cc) q.0 g)
    go (b ∷ w) [] z [] p q g h e = absurd (let n : ◌≡◌ {A = ℕ} 0 1 = cc in omega arith)
    go (b ∷ w) [] z (d ∷ y) p q g h e = absurd (clash b d (cc) p.0 h)
    go (b ∷ w) (c ∷ x) z y p q g h e =
        let k : b ≡ c = cc in
        let t : w ≡ x = go w x z y p.1 q.1 g h (let u : w ++ z ≡ x ++ y = cc in u) in
        λ i. k i ∷ t i

-- ---- sequence

module _ {A B : Type 0} (L : A → Form) (M : B → Form) (F G : List ℕ → Type 0) (fits : (b : B) (at : ℕ) (w z : List ℕ) → M b at w → G z → F (w ++ z))
    (l : Sole L F) where
  -- two values of the second part that are sole of each other
  pair : (a b : A) (c d : B)
      → ((at : ℕ) (w x z y : List ℕ) → M c at w → M d at x → G z → G y → w ++ z ≡ x ++ y → (c ≡ d) × (w ≡ x))
      → (at : ℕ) (w x z y : List ℕ) → (L a · M c) at w → (L b · M d) at x → G z → G y → w ++ z ≡ x ++ y → (a ≡ b) × (c ≡ d) × (w ≡ x)
  pair a b c d m at w x z y p q f g e =
      let k : p.0 ++ (p.1 ++ z) ≡ q.0 ++ (q.1 ++ y) =
      sym (append_assoc p.0 p.1 z) ∙ ap (λ (u : List ℕ). u ++ z) (sym p.2) ∙ e ∙ ap (λ (u : List ℕ). u ++ y) q.2 ∙ append_assoc q.0 q.1 y in
      let r = l a b at p.0 q.0 (p.1 ++ z) (q.1 ++ y) p.3 q.3 (fits c _ p.1 z p.4 f) (fits d _ q.1 y q.4 g) k in
      let t : p.1 ++ z ≡ q.1 ++ y = append_cancel_left p.0 (p.1 ++ z) (q.1 ++ y) (k ∙ ap (λ (u : List ℕ). u ++ (q.1 ++ y)) (sym r.1)) in
      let v = m (at + length p.0) p.1 q.1 z y p.4 (subst (λ (u : List ℕ). M d (at + length u) q.1) (sym r.1) q.4) f g t in
      (r.0, v.0, p.2 ∙ (λ i. r.1 i ++ v.1 i) ∙ sym q.2)

  pub sole_seq : Sole M G → Sole (λ (p : A × B). L p.0 · M p.1) G
  sole_seq m a b at w x z y p q f g e =
      let r = pair a.0 b.0 a.1 b.1 (m a.1 b.1) at w x z y p q f g e in
      ((λ i. (r.0 i, r.1 i)), r.2)

abbrev Lone : Form → Unit {0} → Form
Lone P u = P

sure_lone : (P : Form) (F : List ℕ → Type 0) → Sure P F → Sole (Lone P) F
sure_lone P F s a b at w x z y p q f g e = (refl, s at w x z y p q f g e)

module _ {A : Type 0} (L : A → Form) (P : Form) (F G : List ℕ → Type 0) where
  pub sole_then : ((at : ℕ) (w z : List ℕ) → P at w → G z → F (w ++ z)) → Sole L F → Sure P G → Sole (λ (a : A). L a · P) G
  sole_then fits l s a b at w x z y p q f g e =
      let r = sole_seq L (Lone P) F G (λ u. fits) l (sure_lone P G s) (a, tt) (b, tt) at w x z y p q f g e in
      (ap (λ (p : A × Unit {0}). p.0) r.0, r.1)

  pub sole_after : ((a : A) (at : ℕ) (w z : List ℕ) → L a at w → G z → F (w ++ z)) → Sure P F → Sole L G → Sole (λ (a : A). P · L a) G
  sole_after fits s l a b at w x z y p q f g e =
      let r = sole_seq (Lone P) L F G fits (sure_lone P F s) l (tt, a) (tt, b) at w x z y p q f g e in
      (ap (λ (p : Unit {0} × A). p.1) r.0, r.1)

pub sure_seq : (P Q : Form) (F G : List ℕ → Type 0) → ((at : ℕ) (w z : List ℕ) → Q at w → G z → F (w ++ z)) → Sure P F → Sure Q G → Sure (P · Q) G
sure_seq P Q F G fits s t at w x z y p q f g e =
    (sole_seq (Lone P) (Lone Q) F G (λ u. fits) (sure_lone P F s) (sure_lone Q G t) (tt, tt) (tt, tt) at w x z y p q f g e).1

-- ---- before a narrower text; another value

pub sole_before : {A : Type 0} (L : A → Form) (F G : List ℕ → Type 0) → ((z : List ℕ) → G z → F z) → Sole L F → Sole L G
sole_before L F G under s a b at w x z y p q f g e = s a b at w x z y p q (under z f) (under y g) e

-- where each text of M is one of L, for some value
pub sole_of : {A B : Type 0} (L : A → Form) (M : B → Form) (F : List ℕ → Type 0) (to : A → B)
    → ((b : B) (at : ℕ) (w : List ℕ) → M b at w → (a : A) × L a at w × (b ≡ to a)) → Sole L F → Sole M F
sole_of L M F to back s a b at w x z y p q f g e =
    let k = back a at w p in
    let l = back b at x q in
    let r = s k.0 l.0 at w x z y k.1 l.1 f g e in
    (k.2 ∙ ap to r.0 ∙ sym l.2, r.1)

-- the same where the place tells the value too
pub sole_as : {A B : Type 0} (L : A → Form) (M : B → Form) (F : List ℕ → Type 0) (to : A → ℕ → B) (of : B → A)
    → ((b : B) (at : ℕ) (w : List ℕ) → M b at w → L (of b) at w × (b ≡ to (of b) at)) → Sole L F → Sole M F
sole_as L M F to of back s a b at w x z y p q f g e =
    let k = back a at w p in
    let l = back b at x q in
    let r = s (of a) (of b) at w x z y k.0 l.0 f g e in
    (k.1 ∙ ap (λ c. to c at) r.0 ∙ sym l.1, r.1)

-- ---- choice, what may be missing, repetition

module _ {A : Type 0} (L M : A → Form) (F : List ℕ → Type 0)
    (apart : (a b : A) (at : ℕ) (w x z y : List ℕ) → L a at w → M b at x → F z → x ++ z ≡ w ++ y → ⊥) where
  pub sole_or : Sole L F → Sole M F → Sole (λ (a : A). L a ∪ M a) F
  sole_or l m a b at w x z y (inl p) (inl q) f g e = l a b at w x z y p q f g e
  sole_or l m a b at w x z y (inl p) (inr q) f g e = absurd (apart a b at w x y z p q g (sym e))
  sole_or l m a b at w x z y (inr p) (inl q) f g e = absurd (apart b a at x w z y q p f e)
  sole_or l m a b at w x z y (inr p) (inr q) f g e = m a b at w x z y p q f g e

module _ {A : Type 0} (L : A → Form) (F : List ℕ → Type 0) (apart : (a : A) (at : ℕ) (w y : List ℕ) → L a at w → F (w ++ y) → ⊥) where
  -- where one reading is of nothing, the other is too
  alone : (a : A) (at : ℕ) (w z y : List ℕ) → L a at w → F y → w ++ z ≡ y → ⊥
  alone a at w z y p g e = apart a at w z p (subst F (sym e) g)

  pub sole_maybe : Sole L F → Sole (maybe L) F
  sole_maybe l none none at w x z y p q f g e = (refl, p ∙ sym q)
  sole_maybe l none (some b) at w x z y p q f g e = absurd (alone b at x y z q f (sym e ∙ ap (λ (u : List ℕ). u ++ z) p))
  sole_maybe l (some a) none at w x z y p q f g e = absurd (alone a at w z y p g (e ∙ ap (λ (u : List ℕ). u ++ y) q))
  sole_maybe l (some a) (some b) at w x z y p q f g e = let r = l a b at w x z y p q f g e in (ap some r.0, r.1)

module _ {A : Type 0} (L : A → Form) (F G : List ℕ → Type 0) (fits : (l : List A) (at : ℕ) (w z : List ℕ) → each L l at w → G z → F (w ++ z))
    (apart : (a : A) (at : ℕ) (w y : List ℕ) → L a at w → G (w ++ y) → ⊥) (l : Sole L F) where
  -- one of a list cannot stand where the other reading is of nothing
  not_begun : (a : A) (k : List A) (at : ℕ) (w z y : List ℕ) → (L a · each L k) at w → G y → w ++ z ≡ y → ⊥
  not_begun a k at w z y p g e =
      apart a at p.0 (p.1 ++ z) p.3 (subst G (sym (sym (append_assoc p.0 p.1 z) ∙ ap (λ (u : List ℕ). u ++ z) (sym p.2) ∙ e)) g)

  pub sole_each : Sole (each L) G
  sole_each [] [] at w x z y p q f g e = (refl, p ∙ sym q)
  sole_each [] (b ∷ m) at w x z y p q f g e = absurd (not_begun b m at x y z q f (sym e ∙ ap (λ (u : List ℕ). u ++ z) p))
  sole_each (a ∷ k) [] at w x z y p q f g e = absurd (not_begun a k at w z y p g (e ∙ ap (λ (u : List ℕ). u ++ y) q))
  sole_each (a ∷ k) (b ∷ m) at w x z y p q f g e =
      let r = pair L (each L) F G fits l a b k m (sole_each k m) at w x z y p q f g e in
      ((λ i. r.0 i ∷ r.1 i), r.2)

  pub sole_some : Sole (each⁺ L) G
  sole_some [] b at w x z y p q f g e = absurd p
  sole_some (a ∷ k) [] at w x z y p q f g e = absurd q
  sole_some (a ∷ k) (b ∷ m) at w x z y p q f g e = sole_each (a ∷ k) (b ∷ m) at w x z y p q f g e
