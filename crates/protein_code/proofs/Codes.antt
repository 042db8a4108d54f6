-- The rule of a code's table, from tests that antt computes over its bytes; and which code a table is of.
use Rattle.std.proofs.Common.{◌≡◌, ℕ, ◌/◌, Bool, true, false, eqb, List, [], ◌∷◌, map, length, get_or, take, drop, sym, refl, ap, ◌∙◌, subst, arith, get_or-take, eqb-true}
use Rattle.paper.specs.Translation.{Code, code1, bases_of}
use Rattle.paper.proofs.Tables.{Test, all_from, each_at}
use Rattle.protein_code.specs.Plain.{plain_number}
use Rattle.protein_code.specs.Tables.{set_bases, answer_at, on_strand, SelfSpelt, plain_from, Answers, CodeTable, plain_places, code_of, Coded}
use Rattle.protein_code.proofs.Sets.{part_of, part_at, sets_of, sets_right}
use Rattle.protein_code.proofs.Stopping.{StopTest, stops_right}
use Rattle.protein_code.proofs.Plain.{PlainTest, plain_right}

-- the tests of the parts of a table on a strand
pub record StrandTests (g : Code) (t : List ℕ) (turned : Bool) : Type 0 where
  pub small : Test (λ (x : ℕ). x / 16) (λ (b : ℕ). 0) (sets_of t turned) 256
  pub bases : Test set_bases (λ (b : ℕ). bases_of (on_strand turned b)) (sets_of t turned) 256
  pub plain : PlainTest g turned (part_of t (plain_from turned) 256)
  pub stops : StopTest t turned

-- the test of the answers: each is the letter of its three sets
abbrev pub answer_right : Code → ℕ → ℕ → Bool
answer_right g i x = eqb x (answer_at g i)

pub code_right : (g : Code) (t : List ℕ) → SelfSpelt g → StrandTests g t true → StrandTests g t false
    → length (take 4096 t) ≡ 4096 → all_from (answer_right g) 0 (take 4096 t) ≡ true → CodeTable g t
code_right g t letters back ahead size test =
    record {
      spelt = letters;
      sets = λ turned. sets_right turned t (tests turned).small (tests turned).bases;
      answer = answers;
      plain =
          λ turned x y z w p q r.
          sym (part_at t (plain_from turned) 256 (plain_number x y z w) (omega arith))
          ∙ plain_right g turned (part_of t (plain_from turned) 256) (tests turned).plain x y z w p q r;
      stops = λ turned. stops_right g t size answers turned (tests turned).stops;
    }
  where
    tests : (turned : Bool) → StrandTests g t turned
    tests true = back
    tests false = ahead

    answers : Answers g t
    answers i h = sym (get_or-take 4096 t i 0 h) ∙ eqb-true _ _ (each_at (answer_right g) (take 4096 t) 0 test i (omega (arith, size, h)))

-- ---- the code of a table

-- letters at places of the answers
answers_at : (g : Code) (t : List ℕ) → CodeTable g t → (l : List ℕ) → map (λ (i : ℕ). i / 4096) l ≡ map (λ (i : ℕ). 0) l
    → map (λ (i : ℕ). get_or t i 0) l ≡ map (answer_at g) l
answers_at g t right [] q = refl
answers_at g t right (i ∷ l) q =
    let small : i / 4096 ≡ 0 = ap (λ (k : List ℕ). get_or k 0 0) q in
    let first = right.answer i (omega (arith, small)) in
    let others = answers_at g t right l (ap (drop 1) q) in
    λ k. first k ∷ others k

-- the table of code 1 is of code 1
pub code_1 : {t : List ℕ} → CodeTable code1 t → code_of t ≡ code1
unfolding code_of
code_1 {t} right = answers_at code1 t right plain_places refl

pub coded_1 : {t : List ℕ} → CodeTable code1 t → Coded t
coded_1 {t} right = subst (λ (g : Code). CodeTable g t) (sym (code_1 right)) right
