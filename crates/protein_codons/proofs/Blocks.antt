-- The codons of a block, and where they stand in their span.
use Prim.Native.Nat.{ℕ, ◌+◌, ◌*◌, ◌-◌, ◌≤◌, ◌<◌}
use native.Mathlib.Omega.{arith}
use mathlib.Core.Path.{◌≡◌, sym, ap, subst, ◌∙◌}
use mathlib.Core.Bool.{Bool, true, false}
use mathlib.Core.List.{List}
use lib.ListN.{length, get_or}
use borrow.Author.Tests.{eqb-false}
use Rattle.paper.specs.Translation.{Code}
use Rattle.protein_code.specs.Plain.{Plain, plain_number}
use Rattle.protein_code.specs.Tables.{plain_from, CodeTable}
use Rattle.protein_blocks.specs.Blocks.{letter_from, NoStop, AllPlain}
use Rattle.protein_codons.specs.Reading.{span_letters, place_of, block_of, PlainBlock}
use Rattle.protein_codons.specs.Letters.{NoStops}
use Rattle.protein_codons.proofs.Readings.{letter_stands}

-- the letter of plain residues, by the table of the strand
pub plain_here : (gc : Code) (s : List ℕ) (turned : Bool) (at w : ℕ) {t : List ℕ} {p : ℕ} → at ≡ p → AllPlain s p 3 → CodeTable gc t
    → get_or t (plain_from turned + plain_number (get_or s at 0) (get_or s (at + 1) 0) (get_or s (at + 2) 0) w) 0 ≡ letter_from gc s turned at
plain_here gc s turned at w {t} {p} e plain right =
    right.plain turned _ _ _ w (here at 0 (omega arith) (omega arith)) (here (at + 1) 1 (omega arith) (omega arith))
    (here (at + 2) 2 (omega arith) (omega arith))
  where
    here : (i j : ℕ) → j < 3 → i ≡ p + j → Plain (get_or s i 0)
    here i j h f = subst (λ (n : ℕ). Plain (get_or s n 0)) (sym f) (plain.plain j h)

-- the codon m is the i-th as the block stands
record Nth (low high : ℕ) (turned : Bool) (k m : ℕ) : Type 0 where
  i : ℕ
  below : i < 64
  is : place_of low high turned m ≡ block_of low high turned k + 3 * i

module _ (s : List ℕ) (low high : ℕ) (turned : Bool) (k : ℕ) (h : low + 3 * (k + 64) ≤ high) where
  nth : (t : Bool) (m : ℕ) → k ≤ m → m < k + 64 → Nth low high t k m
  nth true m a b = record { i = k + 63 - m; below = omega arith; is = omega arith }
  nth false m a b = record { i = m - k; below = omega arith; is = omega arith }

  pub block_none : (gc : Code) → high ≤ length s → NoStop gc s turned (block_of low high turned k) 192 → NoStops (span_letters gc s low high turned) k (k + 64)
  block_none gc inside g =
      record {
        none = λ m b a e.
            let n = nth turned m a b in
            let letter = ap (letter_from gc s turned) (sym n.is) ∙ letter_stands gc s low high turned m (omega arith) inside in
            eqb-false _ _ (g.none n.i (let below = n.below in omega arith)) (letter ∙ e);
      }

  -- each codon of a plain block is plain, and another residue stands behind it
  pub plain_nth : PlainBlock s low high turned k → (m : ℕ) → k ≤ m → m < k + 64
      → (place_of low high turned m + 4 ≤ length s) × AllPlain s (place_of low high turned m) 3
  plain_nth g m a b =
      let n = nth turned m a b in
      let e = n.is in
      let below = n.below in (
        omega (arith, g.room),
        record {
          plain = λ j c.
              let at : block_of low high turned k + (3 * n.i + j) ≡ place_of low high turned m + j = omega arith in
              subst (λ (p : ℕ). Plain (get_or s p 0)) at (g.plain.plain (3 * n.i + j) (omega arith));
        },
      )
