-- Whole codons and their letters.
use Prim.Native.Nat.{ℕ, ◌+◌, ◌*◌, ◌-◌, ◌≤◌}
use native.Mathlib.Omega.{arith}
use mathlib.Core.Path.{◌≡◌, refl, sym, ap, ◌∙◌}
use mathlib.Core.List.{List, [], ◌∷◌, ◌++◌, append_assoc}
use lib.ListN.{length, take, drop, get_or, length-append, take-append-drop}
use lib.Seq.{take_at, drop_at, get_or-drop, length-take-le}
use Rattle.paper.specs.Translation.{Code, codon_letter, letters}

letters_append : (gc : Code) (d e : List ℕ) (k : ℕ) → length d ≡ 3 * k → letters gc (d ++ e) ≡ letters gc d ++ letters gc e
letters_append gc [] e k h = refl
letters_append gc (a ∷ []) e k h = absurd (omega arith)
letters_append gc (a ∷ b ∷ []) e k h = absurd (omega arith)
letters_append gc (a ∷ b ∷ c ∷ d) e k h = ap (λ (l : List ℕ). codon_letter gc a b c ∷ l) (letters_append gc d e (k - 1) (omega arith))

letters_count : (gc : Code) (d : List ℕ) (k : ℕ) → length d ≡ 3 * k → length (letters gc d) ≡ k
letters_count gc [] k h = omega arith
letters_count gc (a ∷ []) k h = absurd (omega arith)
letters_count gc (a ∷ b ∷ []) k h = absurd (omega arith)
letters_count gc (a ∷ b ∷ c ∷ d) k h = let e = letters_count gc d (k - 1) (omega arith) in omega arith

-- the first k codons of a text, and the others
module _ (gc : Code) (w : List ℕ) (k : ℕ) (h : 3 * k ≤ length w) where
  size : length (take (3 * k) w) ≡ 3 * k
  size = length-take-le (3 * k) w h

  whole : letters gc w ≡ letters gc (take (3 * k) w) ++ letters gc (drop (3 * k) w)
  whole = ap (letters gc) (sym (take-append-drop (3 * k) w)) ∙ letters_append gc (take (3 * k) w) (drop (3 * k) w) k size

  count : length (letters gc (take (3 * k) w)) ≡ k
  count = letters_count gc (take (3 * k) w) k size

  pub letters_within : k ≤ length (letters gc w)
  letters_within = omega (arith, ap length whole, length-append (letters gc (take (3 * k) w)) (letters gc (drop (3 * k) w)), count)

  letters_take : take k (letters gc w) ≡ letters gc (take (3 * k) w)
  letters_take = ap (take k) whole ∙ take_at (letters gc (take (3 * k) w)) (letters gc (drop (3 * k) w)) k count

  letters_drop : drop k (letters gc w) ≡ letters gc (drop (3 * k) w)
  letters_drop = ap (drop k) whole ∙ drop_at (letters gc (take (3 * k) w)) (letters gc (drop (3 * k) w)) k count

  pub letters_split : (c : List ℕ) → letters gc (w ++ c) ≡ take k (letters gc w) ++ letters gc (drop (3 * k) w ++ c)
  letters_split c =
      let d = take (3 * k) w in
      let e = drop (3 * k) w in
      ap (λ (l : List ℕ). letters gc (l ++ c)) (sym (take-append-drop (3 * k) w))
      ∙ ap (letters gc) (append_assoc d e c)
      ∙ letters_append gc d (e ++ c) k size
      ∙ ap (λ (l : List ℕ). l ++ letters gc (e ++ c)) (sym letters_take)

  pub letters_at : {a b c : ℕ} {o : List ℕ} → drop (3 * k) w ≡ a ∷ b ∷ c ∷ o → get_or (letters gc w) k 0 ≡ codon_letter gc a b c
  letters_at e =
      let z : k ≡ k + 0 = omega arith in
      ap (λ (i : ℕ). get_or (letters gc w) i 0) z
      ∙ sym (get_or-drop k (letters gc w) 0 0)
      ∙ ap (λ (l : List ℕ). get_or l 0 0) (letters_drop ∙ ap (letters gc) e)
