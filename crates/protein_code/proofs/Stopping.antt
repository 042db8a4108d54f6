-- Stops told by comparing letters: where a table's letters aren't those of three residues they are no stop, by a test over all answers.
use Rattle.std.proofs.Common.{◌≡◌, ℕ, ◌+◌, ◌*◌, ◌/◌, ◌%◌, ◌<◌, Bool, true, false, cond, not, ◌&&◌, ◌||◌, eqb, List, length, get_or, take, sym, refl, ap, ◌∙◌, true≢false, arith, get_or-take, eq-eqb}
use mathlib.Core.Bool.{and-eq-true_iff}
use lib.Bits.{bit_and, bit_or}
use Rattle.paper.specs.Translation.{Code, complement_of, codon_letter}
use Rattle.paper.proofs.Tables.{all_from, each_at}
use Rattle.read_bytes.specs.Numbers.{flag}
use Rattle.read_bytes.proofs.Numbers.{flag_none}
use Rattle.protein_code.specs.Tables.{sets_letter, stops_from, Answers}
use Rattle.protein_code.specs.Stops.{is_stop, letter_here, is_told}
use Rattle.protein_code.proofs.Sets.{set_of, letter_of, set_small, set_bases_lem, set_letter, turned_small, turned_twice}

-- ---- tests as numbers

and_flags : (p q : Bool) → bit_and (flag p) (flag q) ≡ flag (p && q)
and_flags true true = refl
and_flags true false = refl
and_flags false true = refl
and_flags false false = refl

or_flags : (p q : Bool) → bit_or (flag p) (flag q) ≡ flag (p || q)
or_flags true true = refl
or_flags true false = refl
or_flags false true = refl
or_flags false false = refl

-- of a test and of three joined, as numbers
module _ (p u v w : Bool) where
  pub none_of : {x a b c : ℕ} → x ≡ flag p → a ≡ flag u → b ≡ flag v → c ≡ flag w → bit_and x (bit_or (bit_or a b) c) ≡ 0
      → p && (u || v || w) ≡ false
  none_of e f g h k =
      flag_none (p && (u || v || w)) (sym (rw (e, f, g, h, or_flags u v, or_flags (u || v) w) (and_flags p (u || v || w))) ∙ k)

-- ---- a table's letters of stops

module _ (t : List ℕ) (turned : Bool) where
  abbrev told : ℕ → ℕ → ℕ → Bool
  told = is_told turned (λ (i : ℕ). get_or t (stops_from turned + i) 0)

  -- the letters of three sets, as they stand on the strand, are told
  abbrev sets_told : Bool → ℕ → ℕ → ℕ → Bool
  sets_told true a b c = told (complement_of (letter_of c)) (complement_of (letter_of b)) (complement_of (letter_of a))
  sets_told false a b c = told (letter_of a) (letter_of b) (letter_of c)

  -- where the answer x of three sets is a stop each has a base, and their letters are told
  abbrev stop_told : ℕ → ℕ → ℕ → ℕ → Bool
  stop_told a b c x = cond (is_stop x) (not (eqb a 0) && (not (eqb b 0) && (not (eqb c 0) && sets_told turned a b c))) true

  abbrev stop_at : ℕ → ℕ → Bool
  stop_at i = stop_told (i / 256) (i / 16 % 16) (i % 16)

  -- the test: it holds of all answers
  abbrev pub StopTest : Type 0
  StopTest = all_from stop_at 0 (take 4096 t) ≡ true

  module _ (g : Code) (size : length (take 4096 t) ≡ 4096) (answers : Answers g t) (test : StopTest) where
    at_index : (n a b c : ℕ) → n < 4096 → n / 256 ≡ a → n / 16 % 16 ≡ b → n % 16 ≡ c → stop_told a b c (sets_letter g a b c) ≡ true
    at_index n a b c h e f k =
        rw (← e, ← f, ← k, ← answers n h, ← get_or-take 4096 t n 0 h)
        (each_at stop_at (take 4096 t) 0 test n (omega (arith, size, h)))

    at_sets : (a b c : ℕ) → a < 16 → b < 16 → c < 16 → stop_told a b c (sets_letter g a b c) ≡ true
    at_sets a b c h i j = at_index (a * 256 + b * 16 + c) a b c (omega arith) (omega arith) (omega arith) (omega arith)

    -- a stop's letters are told, each from its set
    module _ (x y z : ℕ) (h : x < 256) (i : y < 256) (j : z < 256) where
      letters_told : is_stop (codon_letter g x y z) ≡ true
          → (letter_of (set_of x) ≡ x) × (letter_of (set_of y) ≡ y) × (letter_of (set_of z) ≡ z) × (sets_told turned (set_of x) (set_of y) (set_of z) ≡ true)
      letters_told s =
          let stop : is_stop (sets_letter g (set_of x) (set_of y) (set_of z)) ≡ true = rw (set_bases_lem x h, set_bases_lem y i, set_bases_lem z j) s in
          let all = rw stop at (at_sets (set_of x) (set_of y) (set_of z) (set_small x h) (set_small y i) (set_small z j)) in
          let a = (and-eq-true_iff _ _).0 all in
          let b = (and-eq-true_iff _ _).0 a.1 in
          let c = (and-eq-true_iff _ _).0 b.1 in
          (set_letter x h (based x a.0), set_letter y i (based y b.0), set_letter z j (based z c.0), c.1)
        where
          based : (b : ℕ) → not (eqb (set_of b) 0) ≡ true → set_of b ≡ 0 → ⊥
          based b e z = true≢false (sym e ∙ ap not (eq-eqb (set_of b) 0 z))

-- what the sets' letters tell, told of the residues
module _ (g : Code) (t : List ℕ) (size : length (take 4096 t) ≡ 4096) (answers : Answers g t) where
  pub stops_right : (turned : Bool) → StopTest t turned → (x y z : ℕ) → x < 256 → y < 256 → z < 256
      → is_told turned (λ (i : ℕ). get_or t (stops_from turned + i) 0) x y z ≡ false → is_stop (letter_here g turned x y z) ≡ false
  stops_right true test x y z h i j n = by (is_stop (letter_here g true x y z)) refl
    where
      by : (s : Bool) → is_stop (letter_here g true x y z) ≡ s → is_stop (letter_here g true x y z) ≡ false
      by false e = e
      by true e =
          let d = letters_told t true g size answers test (complement_of z) (complement_of y) (complement_of x) (turned_small z j) (turned_small y i) (turned_small x h) e in
          absurd (true≢false (sym (rw (d.0, d.1, d.2, turned_twice x h, turned_twice y i, turned_twice z j) at d.3) ∙ n))
  stops_right false test x y z h i j n = by (is_stop (letter_here g false x y z)) refl
    where
      by : (s : Bool) → is_stop (letter_here g false x y z) ≡ s → is_stop (letter_here g false x y z) ≡ false
      by false e = e
      by true e =
          let d = letters_told t false g size answers test x y z h i j e in
          absurd (true≢false (sym (rw (d.0, d.1, d.2) at d.3) ∙ n))
