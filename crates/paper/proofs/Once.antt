-- One answer only: two results that a call's relation allows are equal. The one thing that is not a law of the definitions alone, that
-- bytes are laid out from at most one listing, is a parameter: the layout's reader proves it.
use Prim.Native.Nat.{ℕ, zero, suc, ◌≤◌}
use native.Mathlib.Omega.{arith}
use mathlib.Core.Path.{◌≡◌, refl, sym, ap, ◌∙◌, subst}
use mathlib.Core.Bool.{Bool, true, false}
use mathlib.Core.Logic.{◌↔◌}
use mathlib.Core.List.{List, ◌++◌}
use mathlib.Core.Option.{some}
use lib.ListN.{length}
use Rattle.paper.specs.Bytes.{bytes}
use Rattle.paper.specs.Lists.{Nth, Numbered, Count, end, has, lacks}
use Rattle.paper.specs.Tree.{Qualifier, Feature, Sequence, Listing, features_of, qualifiers_of}
use Rattle.paper.specs.Layout.{LaidOut}
use Rattle.paper.specs.Values.{Number}
use Rattle.paper.specs.Locations.{Location, Locates, spans}
use Rattle.paper.specs.Translation.{code1, codons_from, coding_text, drop_stop, has_stop_inside}
use Rattle.paper.specs.Rules.{Skipped, Kind, dna, rna, aa, IsKind, kind_name, value_read, CodonStart, absent, stated, Codons, Broken, First}
use Rattle.paper.specs.Answers.{Verdict, Prints, page, part_of, is_present, value_part, triples, front, Outcome, refuse, give, Strays, Checked, too_long, strays, breaks, accepted, Counts, CheckSays, FindsSequence, FindsFeature, FindsQualifier, FindsLocation, Translates, FindsTranslation, FindsTranslations, Lines, Lent, Part, FeatureShown, shown_of, kind_number, SequenceSays, FeatureSays, QualifierSays, TranslationSays, TranslationsSays}
use Rattle.paper.specs.Index.{index_of, agree, FindsIndex, IndexSays, ChecksIndex, IndexCheckSays, WithIndex, IndexedSequenceSays, IndexedFeatureSays, IndexedQualifierSays, IndexedTranslationSays, IndexedTranslationsSays}
use Rattle.std.specs.Prelude.{Ok, Err}
use Rattle.paper.proofs.Decimal.{number_once}
use Rattle.paper.proofs.Firsts.{first_once}
use Rattle.paper.proofs.Lists.{numbered_once, count_once}
use Rattle.paper.proofs.Locate.{locates_once}
use Rattle.paper.proofs.Refusals.{refusal_some, index_check_refused}

-- ---- translations

none_of : {A : Type 0} {C : A → Type 0} {l : List A} (x : A) (i : ℕ) → Count C l 0 → Nth l i x → C x → ⊥
none_of x i end h c = h
none_of {C = C} x zero (lacks n r) h c = n (subst C h c)
none_of x (suc i) (lacks n r) h c = none_of x i r h c

-- where one element only has the property, two that have it are the same
only_one : {A : Type 0} {C : A → Type 0} {l : List A} (x y : A) (i j : ℕ) → Count C l 1 → Nth l i x → C x → Nth l j y → C y → x ≡ y
only_one {C = C} x y zero zero (has d r) h c k e = h ∙ sym k
only_one {C = C} x y zero (suc j) (has d r) h c k e = absurd (none_of y j r k e)
only_one {C = C} x y (suc i) zero (has d r) h c k e = absurd (none_of x i r h c)
only_one {C = C} x y (suc i) (suc j) (has d r) h c k e = absurd (none_of x i r h c)
only_one {C = C} x y zero j (lacks n r) h c k e = absurd (n (subst C h c))
only_one {C = C} x y (suc i) zero (lacks n r) h c k e = absurd (n (subst C k e))
only_one {C = C} x y (suc i) (suc j) (lacks n r) h c k e = only_one x y i j r h c k e

start_once : {P : Type 0} {f : Feature P} {n m : ℕ} → CodonStart f n → CodonStart f m → n ≡ m
start_once (absent c) (absent d) = refl
start_once (absent c) (stated q d i h w v o k) = absurd (omega (arith, count_once c d))
start_once (stated q d i h w v o k) (absent c) = absurd (omega (arith, count_once c d))
start_once (stated q c i h w v o k) (stated {n = m} r d j e x u a b) =
    let s : q ≡ r = only_one q r i.0 j.0 c i.1 h j.1 e in
    let y : some w ≡ some x = sym v ∙ ap value_read s ∙ u in
    let z : w ≡ x = cc in
    number_once k (subst (Number m) (sym z) b)

pub codons_once : {P : Type 0} {s : Sequence P} {f : Feature P} {x y : List ℕ} → Codons s f x → Codons s f y → x ≡ y
codons_once {s = s} a b =
    let t : a.location ≡ b.location = locates_once a.location b.location a.located b.located in
    a.are ∙ (λ i. codons_from code1 (start_once a.starts b.starts i) (coding_text s.residues.read (spans (t i)))) ∙ sym b.are

true_or_false : {b : Bool} → b ≡ true → b ≡ false → ⊥
true_or_false p q = let z : ◌≡◌ {A = ℕ} 0 1 = cc in omega arith

pub translates_once : {P : Type 0} {s : Sequence P} {f : Feature P} {a b : Outcome (List ℕ)} → Translates s f a → Translates s f b → a ≡ b
translates_once (Translates.no_cds n) (Translates.no_cds m) = refl
translates_once (Translates.no_cds n) (Translates.unjudged c u) = absurd (n c)
translates_once (Translates.no_cds n) (Translates.stop_inside j e) = absurd (n j.coding)
translates_once (Translates.no_cds n) (Translates.translation j e) = absurd (n j.coding)
translates_once (Translates.unjudged c u) (Translates.no_cds n) = absurd (n c)
translates_once (Translates.unjudged c u) (Translates.unjudged d v) = refl
translates_once (Translates.unjudged c u) (Translates.stop_inside j e) = absurd (j.judged u)
translates_once (Translates.unjudged c u) (Translates.translation j e) = absurd (j.judged u)
translates_once (Translates.stop_inside j e) (Translates.no_cds n) = absurd (n j.coding)
translates_once (Translates.stop_inside j e) (Translates.unjudged c u) = absurd (j.judged u)
translates_once (Translates.stop_inside j e) (Translates.stop_inside k d) = refl
translates_once (Translates.stop_inside j e) (Translates.translation k d) =
    absurd (true_or_false (ap has_stop_inside (codons_once k.codons j.codons) ∙ e) d)
translates_once (Translates.translation j e) (Translates.no_cds n) = absurd (n j.coding)
translates_once (Translates.translation j e) (Translates.unjudged c u) = absurd (j.judged u)
translates_once (Translates.translation j e) (Translates.stop_inside k d) =
    absurd (true_or_false (ap has_stop_inside (codons_once j.codons k.codons) ∙ d) e)
translates_once (Translates.translation j e) (Translates.translation k d) = λ i. give (drop_stop (codons_once j.codons k.codons i))

not_both : {A : Type 0} {n p : ℕ} {a : A} → refuse n p ≡ give a → ⊥
not_both e = let z : ◌≡◌ {A = ℕ} 0 1 = cc in omega arith

same_given : {A : Type 0} {a b : A} → give a ≡ give b → a ≡ b
same_given e = cc

-- the same refusal, of another kind of answer
same_refused : {A B : Type 0} {n p m q : ℕ} → ◌≡◌ {A = Outcome A} (refuse n p) (refuse m q) → ◌≡◌ {A = Outcome B} (refuse n p) (refuse m q)
same_refused {n = n} {p = p} {m = m} {q = q} e = let x : n ≡ m = cc in let y : p ≡ q = cc in λ i. refuse (x i) (y i)

-- refusals of two numbers are not one
two_refusals : {A : Type 0} {n p m q : ℕ} → ◌≡◌ {A = Outcome A} (refuse n p) (refuse m q) → (n ≡ m → ⊥) → ⊥
two_refusals e h = h cc

pub lines_once : {P : Type 0} {s : Sequence P} {l : List (Feature P)} {x y : List ℕ} → Lines s l x → Lines s l y → x ≡ y
lines_once Lines.end Lines.end = refl
lines_once (Lines.no_cds a r) (Lines.no_cds b t) = lines_once r t
lines_once (Lines.no_cds a r) (Lines.unjudged b t) = absurd (two_refusals (translates_once a b) (λ e. omega arith))
lines_once (Lines.no_cds a r) (Lines.stop_inside b t) = absurd (two_refusals (translates_once a b) (λ e. omega arith))
lines_once (Lines.no_cds a r) (Lines.translation b t) = absurd (not_both (translates_once a b))
lines_once (Lines.unjudged a r) (Lines.no_cds b t) = absurd (two_refusals (translates_once a b) (λ e. omega arith))
lines_once (Lines.unjudged a r) (Lines.unjudged b t) = ap (◌++◌ (bytes "-\n")) (lines_once r t)
lines_once (Lines.unjudged a r) (Lines.stop_inside b t) = ap (◌++◌ (bytes "-\n")) (lines_once r t)
lines_once (Lines.unjudged a r) (Lines.translation b t) = absurd (not_both (translates_once a b))
lines_once (Lines.stop_inside a r) (Lines.no_cds b t) = absurd (two_refusals (translates_once a b) (λ e. omega arith))
lines_once (Lines.stop_inside a r) (Lines.unjudged b t) = ap (◌++◌ (bytes "-\n")) (lines_once r t)
lines_once (Lines.stop_inside a r) (Lines.stop_inside b t) = ap (◌++◌ (bytes "-\n")) (lines_once r t)
lines_once (Lines.stop_inside a r) (Lines.translation b t) = absurd (not_both (translates_once a b))
lines_once (Lines.translation a r) (Lines.no_cds b t) = absurd (not_both (translates_once b a))
lines_once (Lines.translation a r) (Lines.unjudged b t) = absurd (not_both (translates_once b a))
lines_once (Lines.translation a r) (Lines.stop_inside b t) = absurd (not_both (translates_once b a))
lines_once (Lines.translation a r) (Lines.translation b t) =
    λ i. same_given (translates_once a b) i ++ (bytes "\n" ++ lines_once r t i)

-- ---- the calls

pub name_once : (d e : Kind) → bytes (kind_name d) ≡ bytes (kind_name e) → d ≡ e
name_once dna dna q = refl
name_once dna rna q = absurd (let z : ◌≡◌ {A = ℕ} 68 82 = cc in omega arith)
name_once dna aa q = absurd (let z : ◌≡◌ {A = ℕ} 68 65 = cc in omega arith)
name_once rna dna q = absurd (let z : ◌≡◌ {A = ℕ} 82 68 = cc in omega arith)
name_once rna rna q = refl
name_once rna aa q = absurd (let z : ◌≡◌ {A = ℕ} 82 65 = cc in omega arith)
name_once aa dna q = absurd (let z : ◌≡◌ {A = ℕ} 65 68 = cc in omega arith)
name_once aa rna q = absurd (let z : ◌≡◌ {A = ℕ} 65 82 = cc in omega arith)
name_once aa aa q = refl

pub kind_once : {P : Type 0} (s : Sequence P) (d e : Kind) → IsKind d s → IsKind e s → d ≡ e
kind_once s d e a b = name_once d e (sym a ∙ b)

-- ---- what was written to lent output
pub lent_once : {out : List ℕ} {o : Outcome (List ℕ)} {n p k m q j : ℕ} {x y : List ℕ} → Lent out o n p k x → Lent out o m q j y
    → (n ≡ m) × (p ≡ q) × (k ≡ j) × (x ≡ y)
lent_once Lent.refused Lent.refused = (refl, refl, refl, refl)
lent_once (Lent.short h) (Lent.short k) = (refl, refl, refl, refl)
lent_once (Lent.short h) (Lent.written k) = absurd (omega arith)
lent_once (Lent.written h) (Lent.short k) = absurd (omega arith)
lent_once (Lent.written h) (Lent.written k) = (refl, refl, refl, refl)

-- rule 2 has one place
pub strays_once : {w : List ℕ} {p q : ℕ} → Strays w p → Strays w q → p ≡ q
strays_once {p = p} {q = q} s t =
    let a : p ≤ q = t.longest p s.inside s.begins in
    let b : q ≤ p = s.longest q t.inside t.begins in
    omega arith

module _ {w : List ℕ} (once : (l m : Listing ℕ) → LaidOut l w → LaidOut m w → l ≡ m) where
  pub checked_once : {a b : Outcome (Listing ℕ)} → Checked w a → Checked w b → a ≡ b
  checked_once (too_long h) (too_long k) = refl
  checked_once (too_long h) (strays k s) = absurd (omega arith)
  checked_once (too_long h) (breaks l k d f) = absurd (omega arith)
  checked_once (too_long h) (accepted k d f) = absurd (omega arith)
  checked_once (strays k s) (too_long h) = absurd (omega arith)
  checked_once (strays h s) (strays k t) = ap (refuse 2) (strays_once s t)
  checked_once (strays h s) (breaks l k d f) = absurd (s.stray l d)
  checked_once (strays h s) (accepted {l = l} k d f) = absurd (s.stray l d)
  checked_once (breaks l k d f) (too_long h) = absurd (omega arith)
  checked_once (breaks l k d f) (strays h s) = absurd (s.stray l d)
  checked_once (breaks {n = n} {p = p} l h d f) (breaks {n = m} {p = q} r k e g) =
      let x = first_once n p m q f (subst (λ (t : Listing ℕ). First (Broken t) m q) (once r l e d) g) in
      λ i. refuse (x.0 i) (x.1 i)
  checked_once (breaks {n = n} {p = p} l h d f) (accepted {l = r} k e g) =
      absurd (g n p (subst (λ (t : Listing ℕ). Broken t n p) (once l r d e) f.broken))
  checked_once (accepted k d f) (too_long h) = absurd (omega arith)
  checked_once (accepted {l = l} k d f) (strays h s) = absurd (s.stray l d)
  checked_once (accepted {l = r} k e g) (breaks {n = n} {p = p} l h d f) =
      absurd (g n p (subst (λ (t : Listing ℕ). Broken t n p) (once l r d e) f.broken))
  checked_once (accepted {l = l} h d f) (accepted {l = r} k e g) = ap give (once l r d e)

  pub check_once : (a b : Verdict) → CheckSays w a → CheckSays w b → a ≡ b
  check_once (Err r) (Err q) a b =
      let e = checked_once a b in
      let x : r.rule ≡ q.rule = cc in
      let y : r.place ≡ q.place = cc in
      λ i. Err (record { rule = x i; place = y i })
  check_once (Err r) (Ok y) a b = absurd (not_both (checked_once a b.1))
  check_once (Ok x) (Err r) a b = absurd (not_both (checked_once b a.1))
  check_once (Ok x) (Ok y) a b =
      counted
      (subst
      (λ (l : Listing ℕ). Counts l y.total y.skipped y.features y.judged y.unjudged)
      (same_given (checked_once b.1 a.1))
      b.2)
    where
      counted : Counts a.0 y.total y.skipped y.features y.judged y.unjudged → ◌≡◌ {A = Verdict} (Ok x) (Ok y)
      counted c =
          let k = a.2 in
          let t = k.totals ∙ sym c.totals in
          let f = k.featured ∙ sym c.featured in
          λ i.
          Ok
          (record {
            total = t i;
            skipped = count_once k.skips c.skips i;
            features = f i;
            judged = count_once k.judges c.judges i;
            unjudged = count_once k.unjudges c.unjudges i;
          })

  -- the program's page
  pub prints_once : {x y : List ℕ} → Prints w x → Prints w y → x ≡ y
  prints_once (Prints.too_long h) (Prints.too_long k) = refl
  prints_once (Prints.too_long h) (Prints.verdict v k c) = absurd (omega (arith, h, k))
  prints_once (Prints.verdict v h c) (Prints.too_long k) = absurd (omega (arith, h, k))
  prints_once (Prints.verdict v h c) (Prints.verdict u k d) = ap page (check_once v u c d)

  -- ---- the index

  pub finds_index_once : {a b : Outcome (List ℕ)} → FindsIndex w a → FindsIndex w b → a ≡ b
  finds_index_once (FindsIndex.own a) (FindsIndex.own b) = same_refused (checked_once a b)
  finds_index_once (FindsIndex.own a) (FindsIndex.index b) = absurd (not_both (checked_once a b))
  finds_index_once (FindsIndex.index b) (FindsIndex.own a) = absurd (not_both (checked_once a b))
  finds_index_once (FindsIndex.index a) (FindsIndex.index b) = ap (λ (l : Listing ℕ). give (index_of l)) (same_given (checked_once a b))

  pub index_once : {out : List ℕ} {n p z m q j : ℕ} {x y : List ℕ} → IndexSays w out n p z x → IndexSays w out m q j y → (n ≡ m) × (p ≡ q) × (z ≡ j) × (x ≡ y)
  index_once {out} {m = m} {q = q} {j = j} {y = y} a b =
      lent_once a.lent (subst (λ (o : Outcome (List ℕ)). Lent out o m q j y) (finds_index_once b.finds a.finds) b.lent)

  module _ {x : List ℕ} where
    -- an index that belongs to the listing doesn't differ from it
    belongs_or_differs : {l r : Listing ℕ} → Checked w (give l) → x ≡ index_of l → Checked w (give r) → ¬ (x ≡ index_of r) → ⊥
    belongs_or_differs a e b n = n (e ∙ ap (λ (l : Listing ℕ). index_of l) (same_given (checked_once a b)))

    pub checks_index_once : {a b : Outcome (Listing ℕ)} → ChecksIndex w x a → ChecksIndex w x b → a ≡ b
    checks_index_once (ChecksIndex.own a) (ChecksIndex.own b) = same_refused (checked_once a b)
    checks_index_once (ChecksIndex.own a) (ChecksIndex.differs b n) = absurd (not_both (checked_once a b))
    checks_index_once (ChecksIndex.own a) (ChecksIndex.belongs b e) = absurd (not_both (checked_once a b))
    checks_index_once (ChecksIndex.differs b n) (ChecksIndex.own a) = absurd (not_both (checked_once a b))
    checks_index_once (ChecksIndex.differs a n) (ChecksIndex.differs b m) = ap (λ (l : Listing ℕ). refuse 50 (agree (index_of l) x)) (same_given (checked_once a b))
    checks_index_once (ChecksIndex.differs b n) (ChecksIndex.belongs a e) = absurd (belongs_or_differs a e b n)
    checks_index_once (ChecksIndex.belongs b e) (ChecksIndex.own a) = absurd (not_both (checked_once a b))
    checks_index_once (ChecksIndex.belongs a e) (ChecksIndex.differs b n) = absurd (belongs_or_differs a e b n)
    checks_index_once (ChecksIndex.belongs a e) (ChecksIndex.belongs b f) = checked_once a b

    pub index_check_once : {n p m q : ℕ} → IndexCheckSays w x n p → IndexCheckSays w x m q → (n ≡ m) × (p ≡ q)
    index_check_once (IndexCheckSays.refused a) (IndexCheckSays.refused b) = let e = checks_index_once a b in (cc, cc)
    index_check_once (IndexCheckSays.refused a) (IndexCheckSays.taken b) = absurd (not_both (checks_index_once a b))
    index_check_once (IndexCheckSays.taken b) (IndexCheckSays.refused a) = absurd (not_both (checks_index_once a b))
    index_check_once (IndexCheckSays.taken a) (IndexCheckSays.taken b) = (refl, refl)

    -- a lookup with an index: two refusals of the checker are one, and two plain answers are compared as such
    pub with_index_once : {n p m q : ℕ} {N M A B R : Type 0} → (n ≡ m → p ≡ q → N → M → R) → (A → B → R) → WithIndex w x n p N A → WithIndex w x m q M B → R
    with_index_once f g (WithIndex.refused a u) (WithIndex.refused b v) = let e = checks_index_once a b in f (cc) (cc) u v
    with_index_once f g (WithIndex.refused a u) (WithIndex.taken b y) = absurd (not_both (checks_index_once a b))
    with_index_once f g (WithIndex.taken b y) (WithIndex.refused a u) = absurd (not_both (checks_index_once a b))
    with_index_once f g (WithIndex.taken a y) (WithIndex.taken b z) = g y z

    -- where the checker takes the index
    pub with_index_plain : {n p : ℕ} {N A : Type 0} → IndexCheckSays w x 0 0 → WithIndex w x n p N A ↔ A
    with_index_plain {n} {p} {N} {A} c = by c refl
      where
        to : {l : Listing ℕ} → ChecksIndex w x (give l) → WithIndex w x n p N A → A
        to b (WithIndex.refused a u) = absurd (not_both (checks_index_once a b))
        to b (WithIndex.taken a y) = y

        by : {m q : ℕ} → IndexCheckSays w x m q → m ≡ 0 → WithIndex w x n p N A ↔ A
        by (IndexCheckSays.refused a) e = absurd (refusal_some (index_check_refused a) e)
        by (IndexCheckSays.taken b) e = (to b, λ y. WithIndex.taken b y)

  module _ {k : ℕ} where
    -- the numbered sequence of the one listing
    same_sequence : {l r : Listing ℕ} (s t : Sequence ℕ) → Checked w (give l) → Checked w (give r) → Numbered l.sequences k s → Numbered r.sequences k t → s ≡ t
    same_sequence {l} {r} s t a b h i =
        numbered_once l.sequences k s t h (subst (λ (x : Listing ℕ). Numbered x.sequences k t) (same_given (checked_once b a)) i)

    no_such : {l r : Listing ℕ} (s : Sequence ℕ) → Checked w (give l) → Checked w (give r) → ((t : Sequence ℕ) → ¬ Numbered l.sequences k t)
        → Numbered r.sequences k s → ⊥
    no_such s a b n h = n s (subst (λ (x : Listing ℕ). Numbered x.sequences k s) (same_given (checked_once b a)) h)

    pub finds_sequence_once : {a b : Outcome (Sequence ℕ)} → FindsSequence w k a → FindsSequence w k b → a ≡ b
    finds_sequence_once (FindsSequence.own a) (FindsSequence.own b) = same_refused (checked_once a b)
    finds_sequence_once (FindsSequence.own a) (FindsSequence.no_sequence b n) = absurd (not_both (checked_once a b))
    finds_sequence_once (FindsSequence.own a) (FindsSequence.skipped s b h o) = absurd (not_both (checked_once a b))
    finds_sequence_once (FindsSequence.own a) (FindsSequence.sequence b h o) = absurd (not_both (checked_once a b))
    finds_sequence_once (FindsSequence.no_sequence b n) (FindsSequence.own a) = absurd (not_both (checked_once a b))
    finds_sequence_once (FindsSequence.no_sequence a n) (FindsSequence.no_sequence b m) = refl
    finds_sequence_once (FindsSequence.no_sequence a n) (FindsSequence.skipped s b h o) = absurd (no_such s a b n h)
    finds_sequence_once (FindsSequence.no_sequence a n) (FindsSequence.sequence {s = s} b h o) = absurd (no_such s a b n h)
    finds_sequence_once (FindsSequence.skipped s b h o) (FindsSequence.own a) = absurd (not_both (checked_once a b))
    finds_sequence_once (FindsSequence.skipped s b h o) (FindsSequence.no_sequence a n) = absurd (no_such s a b n h)
    finds_sequence_once (FindsSequence.skipped s a h o) (FindsSequence.skipped t b i u) = refl
    finds_sequence_once (FindsSequence.skipped s a h o) (FindsSequence.sequence {s = t} b i u) =
        absurd (u (subst (λ (x : Sequence ℕ). Skipped x) (same_sequence s t a b h i) o))
    finds_sequence_once (FindsSequence.sequence b h o) (FindsSequence.own a) = absurd (not_both (checked_once a b))
    finds_sequence_once (FindsSequence.sequence {s = s} b h o) (FindsSequence.no_sequence a n) = absurd (no_such s a b n h)
    finds_sequence_once (FindsSequence.sequence {s = t} b i u) (FindsSequence.skipped s a h o) =
        absurd (u (subst (λ (x : Sequence ℕ). Skipped x) (same_sequence s t a b h i) o))
    finds_sequence_once (FindsSequence.sequence {s = s} a h o) (FindsSequence.sequence {s = t} b i u) = ap give (same_sequence s t a b h i)

    pub sequence_once : {n p d m q e : ℕ} {x y : Part} → SequenceSays w k n p d x → SequenceSays w k m q e y → (n ≡ m) × (p ≡ q) × (d ≡ e) × (x ≡ y)
    sequence_once (SequenceSays.refused a) (SequenceSays.refused b) = let e = finds_sequence_once a b in (cc, cc, refl, refl)
    sequence_once (SequenceSays.refused a) (SequenceSays.found d b i) = absurd (not_both (finds_sequence_once a b))
    sequence_once (SequenceSays.found d b i) (SequenceSays.refused a) = absurd (not_both (finds_sequence_once a b))
    sequence_once (SequenceSays.found {s = s} d a h) (SequenceSays.found {s = t} e b i) =
        let z : s ≡ t = same_given (finds_sequence_once a b) in
        (refl, refl, ap kind_number (kind_once s d e h (subst (λ (x : Sequence ℕ). IsKind e x) (sym z) i)), λ i. part_of (z i).residues)

    pub finds_translations_once : {a b : Outcome (List ℕ)} → FindsTranslations w k a → FindsTranslations w k b → a ≡ b
    finds_translations_once (FindsTranslations.earlier a) (FindsTranslations.earlier b) = same_refused (finds_sequence_once a b)
    finds_translations_once (FindsTranslations.earlier a) (FindsTranslations.translations b x) = absurd (not_both (finds_sequence_once a b))
    finds_translations_once (FindsTranslations.translations b x) (FindsTranslations.earlier a) = absurd (not_both (finds_sequence_once a b))
    finds_translations_once (FindsTranslations.translations a x) (FindsTranslations.translations {x = v} b y) =
        ap give (lines_once x (subst (λ (s : Sequence ℕ). Lines s (features_of s) v) (same_given (finds_sequence_once b a)) y))

    pub translations_once : {out : List ℕ} {n p z m q j : ℕ} {x y : List ℕ} → TranslationsSays w k out n p z x → TranslationsSays w k out m q j y
        → (n ≡ m) × (p ≡ q) × (z ≡ j) × (x ≡ y)
    translations_once {out} {m = m} {q = q} {j = j} {y = y} a b =
        lent_once a.lent (subst (λ (o : Outcome (List ℕ)). Lent out o m q j y) (finds_translations_once b.finds a.finds) b.lent)

    module _ {j : ℕ} where
      pub finds_feature_once : {a b : Outcome (Sequence ℕ × Feature ℕ)} → FindsFeature w k j a → FindsFeature w k j b → a ≡ b
      finds_feature_once (FindsFeature.earlier a) (FindsFeature.earlier b) = same_refused (finds_sequence_once a b)
      finds_feature_once (FindsFeature.earlier a) (FindsFeature.no_feature b n) = absurd (not_both (finds_sequence_once a b))
      finds_feature_once (FindsFeature.earlier a) (FindsFeature.feature b h) = absurd (not_both (finds_sequence_once a b))
      finds_feature_once (FindsFeature.no_feature b n) (FindsFeature.earlier a) = absurd (not_both (finds_sequence_once a b))
      finds_feature_once (FindsFeature.no_feature a n) (FindsFeature.no_feature b m) = refl
      finds_feature_once (FindsFeature.no_feature a n) (FindsFeature.feature {f = f} b h) =
          absurd (n f (subst (λ (s : Sequence ℕ). Numbered (features_of s) j f) (same_given (finds_sequence_once b a)) h))
      finds_feature_once (FindsFeature.feature b h) (FindsFeature.earlier a) = absurd (not_both (finds_sequence_once a b))
      finds_feature_once (FindsFeature.feature {f = f} b h) (FindsFeature.no_feature a n) =
          absurd (n f (subst (λ (s : Sequence ℕ). Numbered (features_of s) j f) (same_given (finds_sequence_once b a)) h))
      finds_feature_once (FindsFeature.feature {s = s} {f = f} a h) (FindsFeature.feature {f = g} b i) =
          let z = same_given (finds_sequence_once a b) in
          let e : f ≡ g = numbered_once (features_of s) j f g h (subst (λ (s : Sequence ℕ). Numbered (features_of s) j g) (sym z) i) in
          λ i. give (z i, e i)

      pub finds_location_once : {a b : Outcome (Feature ℕ × Location)} → FindsLocation w k j a → FindsLocation w k j b → a ≡ b
      finds_location_once (FindsLocation.earlier a) (FindsLocation.earlier b) = same_refused (finds_feature_once a b)
      finds_location_once (FindsLocation.earlier a) (FindsLocation.location b h) = absurd (not_both (finds_feature_once a b))
      finds_location_once (FindsLocation.location b h) (FindsLocation.earlier a) = absurd (not_both (finds_feature_once a b))
      finds_location_once (FindsLocation.location {s = s} {f = f} {t = t} a h) (FindsLocation.location {s = r} {f = g} {t = u} b i) =
          let z : ◌≡◌ {A = Sequence ℕ × Feature ℕ} (r, g) (s, f) = same_given (finds_feature_once b a) in
          let e = locates_once t u h (subst (λ (x : Sequence ℕ × Feature ℕ). Locates u x.1.location.read) z i) in
          λ i. give ((sym z i).1, e i)

      same_room : {f g : Feature ℕ} {t u : Location} → FindsLocation w k j (give (f, t)) → FindsLocation w k j (give (g, u))
          → length (triples (spans t)) ≡ length (triples (spans u))
      same_room a b = ap (λ (x : Feature ℕ × Location). length (triples (spans x.1))) (same_given (finds_location_once a b))

      pub feature_once : {out : List ℕ} {n p m q : ℕ} {x y : FeatureShown} {a b : List ℕ} → FeatureSays w k j out n p x a → FeatureSays w k j out m q y b
          → (n ≡ m) × (p ≡ q) × (x ≡ y) × (a ≡ b)
      feature_once (FeatureSays.refused a) (FeatureSays.refused b) = let e = finds_location_once a b in (cc, cc, refl, refl)
      feature_once (FeatureSays.refused a) (FeatureSays.short b h) = absurd (not_both (finds_location_once a b))
      feature_once (FeatureSays.refused a) (FeatureSays.found b h) = absurd (not_both (finds_location_once a b))
      feature_once (FeatureSays.short b h) (FeatureSays.refused a) = absurd (not_both (finds_location_once a b))
      feature_once (FeatureSays.short a h) (FeatureSays.short b i) = (refl, refl, refl, refl)
      feature_once (FeatureSays.short a h) (FeatureSays.found b i) = absurd (omega (arith, same_room a b))
      feature_once (FeatureSays.found b h) (FeatureSays.refused a) = absurd (not_both (finds_location_once a b))
      feature_once (FeatureSays.found b i) (FeatureSays.short a h) = absurd (omega (arith, same_room a b))
      feature_once {out} (FeatureSays.found {f = f} {t = t} a h) (FeatureSays.found {f = g} {t = u} b i) =
          let z : ◌≡◌ {A = Feature ℕ × Location} (f, t) (g, u) = same_given (finds_location_once a b) in
          (refl, refl, (λ i. shown_of (z i).0 (z i).1), λ i. front (triples (spans (z i).1)) out)

      pub finds_translation_once : {a b : Outcome (List ℕ)} → FindsTranslation w k j a → FindsTranslation w k j b → a ≡ b
      finds_translation_once (FindsTranslation.earlier a) (FindsTranslation.earlier b) = same_refused (finds_feature_once a b)
      finds_translation_once (FindsTranslation.earlier a) (FindsTranslation.feature b t) = absurd (not_both (finds_feature_once a b))
      finds_translation_once (FindsTranslation.feature b t) (FindsTranslation.earlier a) = absurd (not_both (finds_feature_once a b))
      finds_translation_once (FindsTranslation.feature {s = s} {f = f} a t) (FindsTranslation.feature {s = r} {f = g} {x = x} b u) =
          let z : ◌≡◌ {A = Sequence ℕ × Feature ℕ} (r, g) (s, f) = same_given (finds_feature_once b a) in
          translates_once t (subst (λ (y : Sequence ℕ × Feature ℕ). Translates y.0 y.1 x) z u)

      pub translation_once : {out : List ℕ} {n p z m q r : ℕ} {x y : List ℕ} → TranslationSays w k j out n p z x → TranslationSays w k j out m q r y
          → (n ≡ m) × (p ≡ q) × (z ≡ r) × (x ≡ y)
      translation_once {out} {m = m} {q = q} {r = r} {y = y} a b =
          lent_once a.lent (subst (λ (o : Outcome (List ℕ)). Lent out o m q r y) (finds_translation_once b.finds a.finds) b.lent)

      pub finds_qualifier_once : {i : ℕ} {a b : Outcome (Qualifier ℕ)} → FindsQualifier w k j i a → FindsQualifier w k j i b → a ≡ b
      finds_qualifier_once (FindsQualifier.earlier a) (FindsQualifier.earlier b) = same_refused (finds_feature_once a b)
      finds_qualifier_once (FindsQualifier.earlier a) (FindsQualifier.no_qualifier b n) = absurd (not_both (finds_feature_once a b))
      finds_qualifier_once (FindsQualifier.earlier a) (FindsQualifier.qualifier b h) = absurd (not_both (finds_feature_once a b))
      finds_qualifier_once (FindsQualifier.no_qualifier b n) (FindsQualifier.earlier a) = absurd (not_both (finds_feature_once a b))
      finds_qualifier_once (FindsQualifier.no_qualifier a n) (FindsQualifier.no_qualifier b m) = refl
      finds_qualifier_once {i} (FindsQualifier.no_qualifier {s = s} {f = f} a n) (FindsQualifier.qualifier {s = t} {f = g} {q = q} b h) =
          let z : ◌≡◌ {A = Sequence ℕ × Feature ℕ} (t, g) (s, f) = same_given (finds_feature_once b a) in
          absurd (n q (subst (λ (x : Sequence ℕ × Feature ℕ). Numbered (qualifiers_of x.1) i q) z h))
      finds_qualifier_once (FindsQualifier.qualifier b h) (FindsQualifier.earlier a) = absurd (not_both (finds_feature_once a b))
      finds_qualifier_once {i} (FindsQualifier.qualifier {s = t} {f = g} {q = q} b h) (FindsQualifier.no_qualifier {s = s} {f = f} a n) =
          let z : ◌≡◌ {A = Sequence ℕ × Feature ℕ} (t, g) (s, f) = same_given (finds_feature_once b a) in
          absurd (n q (subst (λ (x : Sequence ℕ × Feature ℕ). Numbered (qualifiers_of x.1) i q) z h))
      finds_qualifier_once {i} (FindsQualifier.qualifier {s = s} {f = f} {q = q} a h) (FindsQualifier.qualifier {s = t} {f = g} {q = r} b e) =
          let z : ◌≡◌ {A = Sequence ℕ × Feature ℕ} (t, g) (s, f) = same_given (finds_feature_once b a) in
          ap give (numbered_once (qualifiers_of f) i q r h (subst (λ (x : Sequence ℕ × Feature ℕ). Numbered (qualifiers_of x.1) i r) z e))

      pub qualifier_once : {i n p m q : ℕ} {x v y u : Part} {a b : Bool} → QualifierSays w k j i n p x a v → QualifierSays w k j i m q y b u
          → (n ≡ m) × (p ≡ q) × (x ≡ y) × (a ≡ b) × (v ≡ u)
      qualifier_once (QualifierSays.refused a) (QualifierSays.refused b) = let e = finds_qualifier_once a b in (cc, cc, refl, refl, refl)
      qualifier_once (QualifierSays.refused a) (QualifierSays.found b) = absurd (not_both (finds_qualifier_once a b))
      qualifier_once (QualifierSays.found b) (QualifierSays.refused a) = absurd (not_both (finds_qualifier_once a b))
      qualifier_once (QualifierSays.found a) (QualifierSays.found b) =
          let z = same_given (finds_qualifier_once a b) in
          (refl, refl, (λ i. part_of (z i).name), (λ i. is_present (z i).value), λ i. value_part (z i).value)

  -- ---- lookups with an index

  module _ {x : List ℕ} {k : ℕ} where
    pub indexed_sequence_once : {n p d m q e : ℕ} {r s : Part} → IndexedSequenceSays w x k n p d r → IndexedSequenceSays w x k m q e s
        → (n ≡ m) × (p ≡ q) × (d ≡ e) × (r ≡ s)
    indexed_sequence_once = with_index_once (λ a b u v. (a, b, u.0 ∙ sym v.0, u.1 ∙ sym v.1)) sequence_once

    pub indexed_translations_once : {out : List ℕ} {n p z m q j : ℕ} {y v : List ℕ} → IndexedTranslationsSays w x k out n p z y → IndexedTranslationsSays w x k out m q j v
        → (n ≡ m) × (p ≡ q) × (z ≡ j) × (y ≡ v)
    indexed_translations_once = with_index_once (λ a b u v. (a, b, u.0 ∙ sym v.0, u.1 ∙ sym v.1)) translations_once

    module _ {j : ℕ} where
      pub indexed_feature_once : {out : List ℕ} {n p m q : ℕ} {y z : FeatureShown} {a b : List ℕ} → IndexedFeatureSays w x k j out n p y a
          → IndexedFeatureSays w x k j out m q z b → (n ≡ m) × (p ≡ q) × (y ≡ z) × (a ≡ b)
      indexed_feature_once = with_index_once (λ a b u v. (a, b, u.0 ∙ sym v.0, u.1 ∙ sym v.1)) feature_once

      pub indexed_qualifier_once : {i n p m q : ℕ} {a v c u : Part} {b d : Bool} → IndexedQualifierSays w x k j i n p a b v → IndexedQualifierSays w x k j i m q c d u
          → (n ≡ m) × (p ≡ q) × (a ≡ c) × (b ≡ d) × (v ≡ u)
      indexed_qualifier_once = with_index_once (λ a b u v. (a, b, u.0 ∙ sym v.0, u.1 ∙ sym v.1, u.2 ∙ sym v.2)) qualifier_once

      pub indexed_translation_once : {out : List ℕ} {n p z m q r : ℕ} {y v : List ℕ} → IndexedTranslationSays w x k j out n p z y → IndexedTranslationSays w x k j out m q r v
          → (n ≡ m) × (p ≡ q) × (z ≡ r) × (y ≡ v)
      indexed_translation_once = with_index_once (λ a b u v. (a, b, u.0 ∙ sym v.0, u.1 ∙ sym v.1)) translation_once
