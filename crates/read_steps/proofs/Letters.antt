-- Texts: a character as it is written, any number of them, and a scan over bytes that stand for themselves.
use Prim.Native.Nat.{ℕ, zero, suc, ◌+◌, ◌-◌, ◌≤◌, ◌<◌, max}
use native.Mathlib.Nat.{add-zero}
use native.Mathlib.Omega.{arith}
use mathlib.Core.Path.{◌≡◌, refl, sym, ap, ◌∙◌, subst}
use mathlib.Core.Bool.{Bool, true, false, ◌||◌, and-eq-true_iff}
use mathlib.Core.Logic.{inl, inr}
use mathlib.Core.List.{List, [], ◌∷◌, ◌++◌}
use lib.ListN.{length, take, drop, get_or, length-drop}
use lib.Dec.{eqb}
use borrow.Author.Tests.{ne_eqb, eqb-true, not-true}
use Rattle.paper.specs.Bytes.{bytes, all, among, is_printed, spell, raw}
use Rattle.paper.specs.Form.{Form, these, ◌∪◌, given, each}
use Rattle.paper.specs.Layout.{text}
use Rattle.read_steps.specs.Reads.{Step, going, stuck, Lost, Viable, Reads, Passes, chosen}
use Rattle.read_steps.specs.Follow.{Not, anything, clash}
use Rattle.read_steps.specs.Texts.{allowed_in, is_plain, is_text, One, letter, Scanned, Upto}
use Rattle.read_steps.proofs.Leaves.{byte_took, at_drop, not_at, not_over}
use Rattle.read_steps.proofs.Steps.{as_reads, either, either_first, stop, more, onwards}
use Rattle.paper.proofs.Texts.{unspell, unspell_spell}
use Rattle.read_steps.proofs.Fronts.{false_true, clash_apart}
use Rattle.read_steps.proofs.Soles.{Sole, sole_as, sole_each}

-- ---- a character: itself, or one of the five entities

-- the character v, written as b
abbrev Entity : ℕ → List ℕ → ℕ → Form
Entity v b n = given (n ≡ v) (these b)

entity : {s : List ℕ} (v : ℕ) (b : List ℕ) {x y : Step} → Passes (these b) anything s x y → Reads (Entity v b) anything s x y
entity v b e = as_reads {M = Entity v b} (λ u at w. v) (λ u at w l. (refl, l)) (λ n at w l. (tt, l.1, l.0)) e

-- no text of M starts with one of L
abbrev Apart : {A : Type 0} → (A → Form) → (A → Form) → Type 0
Apart {A} L M = (a b : A) (at : ℕ) (w x z y : List ℕ) → L a at w → M b at x → anything z → x ++ z ≡ w ++ y → ⊥

apart_or : {A : Type 0} (L K M : A → Form) → Apart L M → Apart K M → Apart (λ (a : A). L a ∪ K a) M
apart_or L K M h k a b at w x z y (inl l) m f e = h a b at w x z y l m f e
apart_or L K M h k a b at w x z y (inr l) m f e = k a b at w x z y l m f e

apart_entity : (v u : ℕ) (b d : List ℕ) → clash d b ≡ true → Apart (Entity v b) (Entity u d)
apart_entity v u b d p a n at w x z y l m f e =
    clash_apart d b z y p (ap (λ (k : List ℕ). k ++ z) (sym m.1) ∙ e ∙ ap (λ (k : List ℕ). k ++ y) l.1)

abbrev lt : List ℕ
lt = bytes "&lt;"

abbrev gt : List ℕ
gt = bytes "&gt;"

abbrev amp : List ℕ
amp = bytes "&amp;"

abbrev quot : List ℕ
quot = bytes "&quot;"

abbrev apos : List ℕ
apos = bytes "&apos;"

-- a byte that is none of the five is written as it stands
spell_plain : (n : ℕ) → among (bytes "<>&\"'") n ≡ false → spell n ≡ n ∷ []
spell_plain n q =
    let a = or_false (eqb n 60) _ q in
    let b = or_false (eqb n 62) _ a.1 in
    let c = or_false (eqb n 38) _ b.1 in
    let d = or_false (eqb n 34) _ c.1 in
    let e = or_false (eqb n 39) false d.1 in
    rw (a.0, b.0, c.0, d.0, e.0)
  where
    or_false : (a b : Bool) → (a || b) ≡ false → (a ≡ false) × (b ≡ false)
    or_false true b e = absurd (false_true (sym e))
    or_false false b e = (refl, e)

module _ (high : Bool) where
  abbrev Plain : ℕ → Form
  Plain = One (is_plain high)

  plain_amp : is_plain high 38 ≡ false
  plain_amp = go high
    where
      go : (h : Bool) → is_plain h 38 ≡ false
      go true = refl
      go false = refl

  apart_plain : (u : ℕ) (d : List ℕ) → Apart Plain (Entity u (38 ∷ d))
  apart_plain u d a n at w x z y l m f e =
      let e' : 38 ∷ (d ++ z) ≡ a ∷ y = ap (λ (k : List ℕ). k ++ z) (sym m.1) ∙ e ∙ ap (λ (k : List ℕ). k ++ y) l.0 in
      let h : a ≡ 38 = cc in
      false_true (sym plain_amp ∙ ap (is_plain high) (sym h) ∙ l.1)

  abbrev ToLt : ℕ → Form
  ToLt n = Plain n ∪ Entity 60 lt n

  abbrev ToGt : ℕ → Form
  ToGt n = ToLt n ∪ Entity 62 gt n

  abbrev ToAmp : ℕ → Form
  ToAmp n = ToGt n ∪ Entity 38 amp n

  abbrev ToQuot : ℕ → Form
  ToQuot n = ToAmp n ∪ Entity 34 quot n

  abbrev Spelled : ℕ → Form
  Spelled n = ToQuot n ∪ Entity 39 apos n

  apart₁ : Apart Plain (Entity 60 lt)
  apart₁ = apart_plain 60 _

  apart₂ : Apart ToLt (Entity 62 gt)
  apart₂ = apart_or Plain (Entity 60 lt) (Entity 62 gt) (apart_plain 62 _) (apart_entity 60 62 lt gt refl)

  apart₃ : Apart ToGt (Entity 38 amp)
  apart₃ =
      apart_or ToLt (Entity 62 gt) (Entity 38 amp)
      (apart_or Plain (Entity 60 lt) (Entity 38 amp) (apart_plain 38 _) (apart_entity 60 38 lt amp refl)) (apart_entity 62 38 gt amp refl)

  apart₄ : Apart ToAmp (Entity 34 quot)
  apart₄ =
      apart_or ToGt (Entity 38 amp) (Entity 34 quot)
      (apart_or ToLt (Entity 62 gt) (Entity 34 quot)
      (apart_or Plain (Entity 60 lt) (Entity 34 quot) (apart_plain 34 _) (apart_entity 60 34 lt quot refl)) (apart_entity 62 34 gt quot refl))
      (apart_entity 38 34 amp quot refl)

  apart₅ : Apart ToQuot (Entity 39 apos)
  apart₅ =
      apart_or ToAmp (Entity 34 quot) (Entity 39 apos)
      (apart_or ToGt (Entity 38 amp) (Entity 39 apos)
      (apart_or ToLt (Entity 62 gt) (Entity 39 apos)
      (apart_or Plain (Entity 60 lt) (Entity 39 apos) (apart_plain 39 _) (apart_entity 60 39 lt apos refl)) (apart_entity 62 39 gt apos refl))
      (apart_entity 38 39 amp apos refl)) (apart_entity 34 39 quot apos refl)

  -- ---- that is the paper's way to write a character

  pub allowed : (v : ℕ) → is_printed v ≡ true → allowed_in high v ≡ true
  allowed v e = go high
    where
      go : (h : Bool) → allowed_in h v ≡ true
      go true = rw e
      go false = e

  module _ (n at : ℕ) (w : List ℕ) where
    entity_letter : (v : ℕ) → is_printed v ≡ true → Entity v (spell v) n at w → letter high n at w
    entity_letter v e d =
        (ap (allowed_in high) d.0 ∙ allowed v e, d.1 ∙ ap spell (sym d.0))

    spelled_letter : Spelled n at w → letter high n at w
    spelled_letter (inl (inl (inl (inl (inl l))))) =
        let q = (and-eq-true_iff (allowed_in high n) _).0 l.1 in
        (q.0, l.0 ∙ sym (spell_plain n (not-true _ q.1)))
    spelled_letter (inl (inl (inl (inl (inr l))))) = entity_letter 60 refl l
    spelled_letter (inl (inl (inl (inr l)))) = entity_letter 62 refl l
    spelled_letter (inl (inl (inr l))) = entity_letter 38 refl l
    spelled_letter (inl (inr l)) = entity_letter 34 refl l
    spelled_letter (inr l) = entity_letter 39 refl l

    letter_spelled : letter high n at w → Spelled n at w
    letter_spelled d = go₁ (eqb n 60) refl
      where
        is : (v : ℕ) → eqb n v ≡ true → Entity v (spell v) n at w
        is v e = let q = eqb-true n v e in (q, d.1 ∙ ap spell q)

        go₅ : eqb n 60 ≡ false → eqb n 62 ≡ false → eqb n 38 ≡ false → eqb n 34 ≡ false → (t : Bool) → eqb n 39 ≡ t → Spelled n at w
        go₅ e f g h true k = inr (is 39 k)
        go₅ e f g h false k =
            let q : among (bytes "<>&\"'") n ≡ false = rw (e, f, g, h, k) in
            inl (inl (inl (inl (inl (d.1 ∙ spell_plain n q, (and-eq-true_iff (allowed_in high n) _).1 (d.0, rw q))))))

        go₄ : eqb n 60 ≡ false → eqb n 62 ≡ false → eqb n 38 ≡ false → (t : Bool) → eqb n 34 ≡ t → Spelled n at w
        go₄ e f g true h = inl (inr (is 34 h))
        go₄ e f g false h = go₅ e f g h (eqb n 39) refl

        go₃ : eqb n 60 ≡ false → eqb n 62 ≡ false → (t : Bool) → eqb n 38 ≡ t → Spelled n at w
        go₃ e f true g = inl (inl (inr (is 38 g)))
        go₃ e f false g = go₄ e f g (eqb n 34) refl

        go₂ : eqb n 60 ≡ false → (t : Bool) → eqb n 62 ≡ t → Spelled n at w
        go₂ e true f = inl (inl (inl (inr (is 62 f))))
        go₂ e false f = go₃ e f (eqb n 38) refl

        go₁ : (t : Bool) → eqb n 60 ≡ t → Spelled n at w
        go₁ true e = inl (inl (inl (inl (inr (is 60 e)))))
        go₁ false e = go₂ e (eqb n 62) refl

  letter_as : {s : List ℕ} {x y : Step} → Reads Spelled anything s x y → Reads (letter high) anything s x y
  letter_as e = as_reads {M = letter high} (λ n at w. n) (λ n at w d. spelled_letter n at w d) (λ n at w d. (n, letter_spelled n at w d, refl)) e

  module _ {s : List ℕ} {x a b₁ a₁ b₂ a₂ b₃ a₃ b₄ a₄ b₅ a₅ : Step} where
    pub letter_reads : Reads Plain anything s x a
        → Passes (these lt) anything s x b₁ → a₁ ≡ chosen a b₁ → Passes (these gt) anything s x b₂ → a₂ ≡ chosen a₁ b₂
        → Passes (these amp) anything s x b₃ → a₃ ≡ chosen a₂ b₃ → Passes (these quot) anything s x b₄ → a₄ ≡ chosen a₃ b₄
        → Passes (these apos) anything s x b₅ → a₅ ≡ chosen a₄ b₅ → Reads (letter high) anything s x a₅
    letter_reads p e₁ h₁ e₂ h₂ e₃ h₃ e₄ h₄ e₅ h₅ =
        letter_as (either apart₅
        (either apart₄ (either apart₃ (either apart₂ (either apart₁ p (entity 60 lt e₁) h₁) (entity 62 gt e₂) h₂) (entity 38 amp e₃) h₃) (entity 34 quot e₄) h₄)
        (entity 39 apos e₅) h₅)

  -- a byte that stands for itself is a character
  plain_letter_lem : {s : List ℕ} {at far n f : ℕ} → Reads Plain anything s (going at far) (going n f) → Reads (letter high) anything s (going at far) (going n f)
  plain_letter_lem p = letter_as (either_first apart₅ (either_first apart₄ (either_first apart₃ (either_first apart₂ (either_first apart₁ p)))))

  -- ---- a character starts with a byte that a text can start with

  Opens : List ℕ → Type 0
  Opens w = (b : ℕ) × (v : List ℕ) × (w ≡ b ∷ v) × (is_text high b ≡ true)

  text_amp : is_text high 38 ≡ true
  text_amp = rw plain_amp

  letter_opens : (a at : ℕ) (w : List ℕ) → letter high a at w → Opens w
  unfolding Opens
  letter_opens a at w l = go (letter_spelled a at w l)
    where
      go : Spelled a at w → (b : ℕ) × (v : List ℕ) × (w ≡ b ∷ v) × (is_text high b ≡ true)
      go (inl (inl (inl (inl (inl l))))) = (a, [], l.0, ap (λ (c : Bool). c || eqb a 38) l.1)
      go (inl (inl (inl (inl (inr l))))) = (38, drop 1 lt, l.1, text_amp)
      go (inl (inl (inl (inr l)))) = (38, drop 1 gt, l.1, text_amp)
      go (inl (inl (inr l))) = (38, drop 1 amp, l.1, text_amp)
      go (inl (inr l)) = (38, drop 1 quot, l.1, text_amp)
      go (inr l) = (38, drop 1 apos, l.1, text_amp)

  letter_apart : (a at : ℕ) (w y : List ℕ) → letter high a at w → Not (is_text high) (w ++ y) → ⊥
  unfolding Opens
  letter_apart a at w y l n =
      let k = letter_opens a at w l in
      let m : is_text high k.0 ≡ false = subst (λ (u : List ℕ). Not (is_text high) (u ++ y)) k.2 n in
      false_true (sym m ∙ k.3)

  letter_long : (a at : ℕ) (w : List ℕ) → letter high a at w → 0 < length w
  unfolding Opens
  letter_long a at w l = let k = letter_opens a at w l in omega (arith, ap length k.2)

  -- ---- the characters so far, whatever is read from here

  abbrev pub Letters : List ℕ → Step → Step → Type 0
  Letters s x y = Reads (each (letter high)) (Not (is_text high)) s x y

  module _ {s : List ℕ} {at far : ℕ} where
    pub letters_stop : {k : ℕ} → Reads (letter high) anything s (going at far) (stuck k) → Letters s (going at far) (going at k)
    letters_stop e = stop (λ l at w z d g. tt) letter_apart e

    pub letters_more : {n f m g : ℕ} → Reads (letter high) anything s (going at far) (going n f) → Letters s (going n f) (going m g) → Letters s (going at far) (going m g)
    letters_more e d = more (λ l at w z d g. tt) letter_apart e d

    pub letter_onwards : {n f : ℕ} → Reads (letter high) anything s (going at far) (going n f) → (at < n) × (n ≤ length s)
    letter_onwards e = onwards letter_long e

  -- bytes that stand for themselves, however many, are characters
  module _ (s : List ℕ) {m g : ℕ} where
    letters_raise : {at far : ℕ} → Letters s (going at far) (going m g) → Letters s (going at (max far at)) (going m g)
    letters_raise e' = let e = e'.is in record { is = (e.0, e.1, e.2, omega (arith, e.3), e.4) }

    plain_more : (at far : ℕ) → at < length s → is_plain high (get_or s at 0) ≡ true → Letters s (going (at + 1) far) (going m g) → Letters s (going at far) (going m g)
    plain_more at far h p d =
        letters_more
        (plain_letter_lem (record {
          is = (1, 1, refl, refl, byte_took (is_plain high) (drop at s) at (omega (arith, length-drop at s)) (ap (is_plain high) (at_drop s at at 0 (omega arith)) ∙ p));
        }))
        (letters_raise d)

    plains_on : (n at far : ℕ) → Upto (is_plain high) s at (at + n) → Letters s (going (at + n) far) (going m g) → Letters s (going at far) (going m g)
    plains_on zero at far u d = subst (λ (k : ℕ). Letters s (going k far) (going m g)) (add-zero at) d
    plains_on (suc n) at far u d =
        let b = u at (omega arith) (omega arith) in
        plain_more at far b.0 b.1
        (plains_on n (at + 1) far (λ k i j. u k (omega arith) (omega arith))
        (subst (λ (k : ℕ). Letters s (going k far) (going m g)) (let q : at + suc n ≡ at + 1 + n = omega arith in q) d))

    pub plains_more : {at far stop r : ℕ} → Scanned (is_plain high) s at stop r → Letters s (going r far) (going m g) → Letters s (going at far) (going m g)
    plains_more {at} {far} {stop} {r} c d =
        let q : r ≡ at + (r - at) = omega (arith, c.onward) in
        plains_on (r - at) at far (λ k i j. c.each k i (omega arith)) (subst (λ (k : ℕ). Letters s (going k far) (going m g)) q d)

  -- where no character starts, the text ends
  no_letter : (t : List ℕ) → Not (is_text high) t → (c : ℕ) (u : List ℕ) → is_text high c ≡ true → take 1 (c ∷ u) ≡ take 1 t → ⊥
  no_letter [] n c u p e = let x : ◌≡◌ {A = ℕ} 0 1 = cc in omega arith
  no_letter (d ∷ t) n c u p e = let h : c ≡ d = cc in false_true (sym n ∙ ap (is_text high) (sym h) ∙ p)

  letter_lost : (t : List ℕ) (at : ℕ) → Not (is_text high) t → Lost (letter high) anything at t 0
  unfolding Opens
  letter_lost t at n =
      record {
        inside = omega arith;
        viable = (32, 32 ∷ [], (allowed 32 refl, refl));
        none =
            λ b w z l f e.
            let k = letter_opens b at w l in
            no_letter t n k.0 (k.1 ++ z) k.3 (ap (λ (u : List ℕ). take 1 (u ++ z)) (sym k.2) ∙ e);
      }

  pub letters_end : (s : List ℕ) {at far : ℕ} → Not (is_text high) (drop at s) → Letters s (going at far) (going at (max far at))
  letters_end s {at} {far} n = letters_stop (record { is = (0, omega arith, letter_lost (drop at s) at n) })

  pub text_over : (s : List ℕ) (at : ℕ) → length s ≤ at → Not (is_text high) (drop at s)
  text_over s at h = not_over (is_text high) s at h

  pub text_stops : (s : List ℕ) (at : ℕ) → is_plain high (get_or s at 0) ≡ false → (get_or s at 0 ≡ 38 → ⊥) → Not (is_text high) (drop at s)
  text_stops s at p q = not_at (is_text high) s at (ap (λ (c : Bool). c || eqb (get_or s at 0) 38) p ∙ ne_eqb (get_or s at 0) 38 q)

  -- ---- a text

  each_text : (l : List ℕ) (at : ℕ) (w : List ℕ) → each (letter high) l at w → all (allowed_in high) l × (w ≡ raw l)
  each_text [] at w d = (tt, d)
  each_text (b ∷ l) at w d =
      let k = each_text l (at + length d.0) d.1 d.4 in
      ((d.3.0, k.0), d.2 ∙ (λ i. d.3.1 i ++ k.1 i))

  text_each : (l : List ℕ) (at : ℕ) → all (allowed_in high) l → each (letter high) l at (raw l)
  text_each [] at a = refl
  text_each (b ∷ l) at a = (spell b, raw l, refl, (a.0, refl), text_each l (at + length (spell b)) a.1)

  pub text_reads : {s : List ℕ} {x y : Step} → Letters s x y → Reads (text (allowed_in high)) (Not (is_text high)) s x y
  text_reads e =
      as_reads {M = text (allowed_in high)} (λ l at w. record { place = at; read = l })
      (λ l at w d. let k = each_text l at w d in (refl, k.0, k.1))
      (λ t at w d. (t.read, subst (each (letter high) t.read at) (sym d.2) (text_each t.read at d.1), λ i. record { place = d.0 i; read = t.read })) e

  pub ev_text : (at : ℕ) → Viable (text (allowed_in high)) at []
  ev_text at = (record { place = at; read = [] }, [], (refl, tt, refl))

  sole_letter : Sole (letter high) anything
  sole_letter a b at w x z y p q f g e =
      let k : ◌≡◌ {A = ℕ × List ℕ} (a, z) (b, y) =
      sym (unspell_spell a z) ∙ ap unspell (ap (λ (u : List ℕ). u ++ z) (sym p.1) ∙ e ∙ ap (λ (u : List ℕ). u ++ y) q.1) ∙ unspell_spell b y in
      let h : a ≡ b = ap (λ (c : ℕ × List ℕ). c.0) k in
      (h, p.1 ∙ ap spell h ∙ sym q.1)

  pub sole_text : Sole (text (allowed_in high)) (Not (is_text high))
  sole_text =
      sole_as (each (letter high)) (text (allowed_in high)) (Not (is_text high)) (λ l at. record { place = at; read = l }) (λ t. t.read)
      (λ t at w d. (subst (each (letter high) t.read at) (sym d.2) (text_each t.read at d.1), λ i. record { place = d.0 i; read = t.read }))
      (sole_each (letter high) anything (Not (is_text high)) (λ l at w z d g. tt) letter_apart sole_letter)
