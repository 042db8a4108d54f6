-- Tests joined as one number: where it is 0 so is each.
use Prim.Native.Nat.{ℕ, ◌+◌, ◌*◌, ◌<◌}
use native.Mathlib.Omega.{arith}
use mathlib.Core.Path.{◌≡◌, refl, sym, ap, ◌∙◌}
use mathlib.Core.Bool.{Bool, true, false}
use mathlib.Core.List.{List}
use lib.Bits.{bit_and, bit_or, and_mask}
use lib.Dec.{ltb}
use lib.ListN.{get_or}
use borrow.Author.Count.{below_more}
use borrow.Author.Tests.{ltb-true, ltb-false}
use Rattle.paper.proofs.Bits.{or_none}
use Rattle.paper.specs.Translation.{Code}
use Rattle.protein_code.specs.Stops.{is_stop}
use Rattle.protein_code.specs.Plain.{Plain}
use Rattle.protein_blocks.specs.Blocks.{Marks, letter_from, NoStop, AllPlain}

-- a number of a byte with all its bits kept
kept : (m : ℕ) → m < 256 → bit_and m 255 ≡ 0 → m ≡ 0
kept m h e = let f = and_mask m 8 in omega arith

-- ---- stops

module _ (gc : Code) (s : List ℕ) (turned : Bool) (at : ℕ) where
  pub no_stop_start : NoStop gc s turned at 0
  no_stop_start = record { none = λ i h. absurd (omega arith) }

  -- the codon from the residue j on was tried, and counts by its mark
  pub no_stop_more : {any m j : ℕ} {marks : List ℕ} → (any ≡ 0 → NoStop gc s turned at j) → Marks marks → j < 192 → m < 256
      → (m ≡ 0 → is_stop (letter_from gc s turned (at + j)) ≡ false) → bit_or any (bit_and m (get_or marks j 0)) ≡ 0 → NoStop gc s turned at (j + 1)
  no_stop_more {any} {m} {j} {marks} before right below small test h = record { none = λ i k. side i k (ltb (3 * i) j) refl }
    where
      none : (any ≡ 0) × (bit_and m (get_or marks j 0) ≡ 0)
      none = or_none any (bit_and m (get_or marks j 0)) h

      side : (i : ℕ) → 3 * i < j + 1 → (b : Bool) → ltb (3 * i) j ≡ b → is_stop (letter_from gc s turned (at + 3 * i)) ≡ false
      side i k true e = (before none.0).none i (ltb-true (3 * i) j e)
      side i k false e =
          let here : 3 * i ≡ j = let f = ltb-false (3 * i) j e in omega arith in
          let mark : get_or marks j 0 ≡ 255 = ap (λ (n : ℕ). get_or marks n 0) (sym here) ∙ right.at i (omega arith) in
          rw here (test (kept m small (ap (bit_and m) (sym mark) ∙ none.1)))

-- ---- plain residues

module _ (s : List ℕ) (at : ℕ) where
  pub plain_start : AllPlain s at 0
  plain_start = record { plain = λ j h. absurd (omega arith) }

  pub plain_more : {any m j : ℕ} → (any ≡ 0 → AllPlain s at j) → (m ≡ 0 → Plain (get_or s (at + j) 0)) → bit_or any m ≡ 0 → AllPlain s at (j + 1)
  plain_more {any} {m} {j} before test h =
      let none = or_none any m h in
      record { plain = below_more (λ (j : ℕ). Plain (get_or s (at + j) 0)) j (before none.0).plain (test none.1) }
