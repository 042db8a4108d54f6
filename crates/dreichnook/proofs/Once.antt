-- One answer only: two results that the C functions' own relations allow are equal. The other functions cite the paper's relations, for
-- which crates/ask_lookups, ask_index and ask_indexed say so.
use Prim.Native.Nat.{ℕ}
use mathlib.Core.Path.{◌≡◌, ap, sym, ◌∙◌}
use mathlib.Core.Bool.{Bool}
use mathlib.Core.List.{List}
use Rattle.paper.specs.Answers.{Part, CheckNumbers, numbers_of, QualifierSays}
use Rattle.paper.specs.Index.{IndexedQualifierSays}
use Rattle.ask_check.proofs.Demands.{answers_once}
use Rattle.ask_lookups.proofs.Once as plain
use Rattle.ask_indexed.proofs.Once as indexed
use Rattle.ask_answers.specs.Handed.{flag_of}
use Rattle.dreichnook.specs.Numbers.{SaysCheck, QualifierNumbers, SaysQualifierBy, SaysQualifier, SaysIndexedQualifier}

pub check_numbers_once : (w : List ℕ) (x y : CheckNumbers) → SaysCheck w x → SaysCheck w y → x ≡ y
check_numbers_once w x y a b = a.is ∙ ap numbers_of (answers_once w a.verdict b.verdict a.says b.says) ∙ sym b.is

-- with an index or without
numbers_once : {w : List ℕ} (Says : (number place : ℕ) (name : Part) (present : Bool) (value : Part) → Type 0)
    → ((n p m q : ℕ) (x v y u : Part) (a b : Bool) → Says n p x a v → Says m q y b u → (n ≡ m) × (p ≡ q) × (x ≡ y) × (a ≡ b) × (v ≡ u))
    → (x y : QualifierNumbers) → SaysQualifierBy Says w x → SaysQualifierBy Says w y → x ≡ y
numbers_once Says once x y f g =
    let z = once x.number x.place y.number y.place x.name x.value y.name y.value f.present g.present f.says g.says in
    let flag = f.flagged ∙ ap flag_of z.3 ∙ sym g.flagged in
    λ i. record { number = z.0 i; place = z.1 i; name = z.2 i; flag = flag i; value = z.4 i }

pub qualifier_numbers_once : {w : List ℕ} {k j i : ℕ} (x y : QualifierNumbers) → SaysQualifier w k j i x → SaysQualifier w k j i y → x ≡ y
qualifier_numbers_once {w} {k} {j} {i} = numbers_once (QualifierSays w k j i) (λ n p m q x v y u a b. plain.qualifier_once)

pub indexed_numbers_once : {w y : List ℕ} {k j i : ℕ} (u v : QualifierNumbers) → SaysIndexedQualifier w y k j i u → SaysIndexedQualifier w y k j i v → u ≡ v
indexed_numbers_once {w} {y} {k} {j} {i} = numbers_once (IndexedQualifierSays w y k j i) (λ n p m q x v y u a b. indexed.qualifier_once)
