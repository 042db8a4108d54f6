-- Base sets: those of a part of a table, by a test of its bytes; and the set of a letter.
use Rattle.std.proofs.Common.{◌≡◌, ℕ, ◌+◌, ◌/◌, ◌<◌, Bool, cond, eqb, List, [], ◌∷◌, get_or, take, drop, refl, ◌∙◌, subst, arith, get_or-drop, get_or-take, ne_eqb}
use Prim.Native.Char.{code}
use Rattle.paper.specs.Bytes.{bytes}
use Rattle.paper.specs.Translation.{bases_of, complement_of}
use Rattle.paper.proofs.Tables.{Test, at_each, each_same}
use Rattle.protein_code.specs.Tables.{set_bases, on_strand, SetAt, sets_from}

-- a part of a table
abbrev pub part_of : List ℕ → ℕ → ℕ → List ℕ
part_of t from n = take n (drop from t)

pub part_at : (t : List ℕ) (from n i : ℕ) → i < n → get_or (part_of t from n) i 0 ≡ get_or t (from + i) 0
part_at t from n i h = get_or-take n (drop from t) i 0 h ∙ get_or-drop from t i 0

-- the part that has the sets of a strand
abbrev pub sets_of : List ℕ → Bool → List ℕ
sets_of t turned = part_of t (sets_from turned) 256

pub sets_right : (turned : Bool) (t : List ℕ) → Test (λ (x : ℕ). x / 16) (λ (b : ℕ). 0) (sets_of t turned) 256
    → Test set_bases (λ (b : ℕ). bases_of (on_strand turned b)) (sets_of t turned) 256
    → (b : ℕ) → b < 256 → SetAt turned b (get_or t (sets_from turned + b) 0)
sets_right turned t small bases b h =
    subst (SetAt turned b) (part_at t (sets_from turned) 256 b h)
    (record {
      small = omega (arith, at_each (λ (x : ℕ). x / 16) (λ (b : ℕ). 0) (sets_of t turned) 256 small b h);
      bases = at_each set_bases (λ (b : ℕ). bases_of (on_strand turned b)) (sets_of t turned) 256 bases b h;
    })

-- ---- the set of a letter

abbrev bits_of : List ℕ → ℕ
bits_of [] = 0
bits_of (x ∷ l) = cond (eqb x (code "a")) 1 (cond (eqb x (code "c")) 2 (cond (eqb x (code "g")) 8 4)) + bits_of l

abbrev pub set_of : ℕ → ℕ
set_of b = bits_of (bases_of b)

-- the letter of a set that has a base
abbrev pub letter_of : ℕ → ℕ
letter_of x = get_or (bytes " acmtwyhgrsvkdbn") x 0

module _ (b : ℕ) (h : b < 256) where
  pub set_small : set_of b < 16
  set_small = omega (arith, each_same (λ (b : ℕ). set_of b / 16) (λ (b : ℕ). 0) 256 refl b h)

  pub set_bases_lem : set_bases (set_of b) ≡ bases_of b
  set_bases_lem = each_same (λ (b : ℕ). set_bases (set_of b)) bases_of 256 refl b h

  pub set_letter : (set_of b ≡ 0 → ⊥) → letter_of (set_of b) ≡ b
  set_letter n = rw (ne_eqb (set_of b) 0 n) at (each_same (λ (b : ℕ). cond (eqb (set_of b) 0) b (letter_of (set_of b))) (λ (b : ℕ). b) 256 refl b h)

  pub turned_small : complement_of b < 256
  turned_small = omega (arith, each_same (λ (b : ℕ). complement_of b / 256) (λ (b : ℕ). 0) 256 refl b h)

  pub turned_twice : complement_of (complement_of b) ≡ b
  turned_twice = each_same (λ (b : ℕ). complement_of (complement_of b)) (λ (b : ℕ). b) 256 refl b h
