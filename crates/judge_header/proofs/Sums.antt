-- The faults of the header's texts, put together.
use Rattle.std.specs.Prelude as rust
use Prim.Native.Nat.{ℕ, zero, suc, ◌≤◌}
use mathlib.Core.Path.{◌≡◌, refl, sym, ap, ◌∙◌, subst}
use mathlib.Core.Bool.{Bool, true, false}
use mathlib.Core.Logic.{◌⊎◌, inl, inr}
use mathlib.Core.List.{List, [], ◌∷◌, ◌++◌, append-nil, map}
use mathlib.Core.Option.{Option, none, some}
use lib.ListN.{drop}
use Rattle.paper.specs.Bytes.{bytes, is_blank}
use Rattle.paper.specs.Lists.{Nth, ◌∈◌, gather, present}
use Rattle.paper.specs.Tree.{Text, Spoken, Party, Identification, Heading, reference, application, Listing}
use Rattle.paper.specs.Layout.{child, leaf, spoken, sequence}
use Rattle.paper.specs.Values.{Date, Two, is_upper, is_lower}
use Rattle.paper.specs.Rules.{identified_in, dates, offices, languages, InHeader, rule_10, rule_11, rule_12, rule_13}
use Rattle.paper.proofs.Lists.{of_append, in_first, in_second}
use Rattle.std.specs.Prelude.{None, Some}
use Rattle.judge_faults.proofs.Parts.{◌or◌}
use Rattle.value_words.specs.Reading.{Tells, OfRead}
use Rattle.value_words.proofs.Read.{tells_word}
use Rattle.read_steps.specs.Follow.{Not, closing}
use Rattle.read_steps.proofs.Fronts.{leads_by, whole, each_starts, starts_sharp}
use Rattle.read_steps.specs.Parts.{ShowsBytes}
use Rattle.walk_steps.specs.Stands.{TellsTag, IsPart, MaybeIs, Finds, Over}
use Rattle.walk_steps.specs.declared.Range.{Range}
use Rattle.walk_steps.specs.declared.Found.{Found}
use Rattle.walk_steps.proofs.Places.{before, from}
use Rattle.walk_steps.proofs.Leaves.{starts_at}
use Rattle.walk_steps.proofs.Elements.{leaf_leads}
use Rattle.walk_items.proofs.Sequences.{sequence_leads}
use Rattle.walk_header.specs.Header.{office_in, filed_in, language_in, identified_by, FindsSpoken, Behind, FindsHeader}
use Rattle.walk_header.specs.declared.FoundHeader.{FoundHeader}
use Rattle.judge_faults.specs.Sets.{Fault, Earlier, Firsts, Bad, unless_of}
use Rattle.judge_faults.proofs.Faults.{firsts_or, firsts_as, firsts_none}
use Rattle.judge_faults.proofs.Seen.{Seen, seen_none, seen_next, seen_stuck, seen_all}
use Rattle.walk_header.proofs.Entries.{spoken_leads}
use Rattle.judge_faults.proofs.Values.{text_fault}
use Rattle.judge_header.specs.Headers.{Wrong, Tries, JudgesMaybe, JudgesVersion, JudgesDates, JudgesOffices, codes, totalled, JudgesTitles, JudgesLanguages, JudgesHeader}

-- ---- lists of texts under one rule

module _ (m : ℕ) (A : List ℕ → Type 0) where
  pub wrong_none : Firsts (Wrong m A []) None
  wrong_none = firsts_none (Wrong m A []) (λ n p x. x.1.1)

  pub wrong_both : (l k : List (Text ℕ)) {a b r : Fault} → Firsts (Wrong m A l) a → Firsts (Wrong m A k) b → Earlier a b r → Firsts (Wrong m A (l ++ k)) r
  wrong_both l k f g e = firsts_as (◌or◌ (Wrong m A l) (Wrong m A k)) (Wrong m A (l ++ k)) to of (firsts_or (Wrong m A l) (Wrong m A k) f g e)
    where
      to : (n p : ℕ) → ◌or◌ (Wrong m A l) (Wrong m A k) n p → Wrong m A (l ++ k) n p
      to n p (inl x) = (x.0, in_first l k x.0 x.1, x.2)
      to n p (inr x) = (x.0, in_second l k x.0 x.1, x.2)

      of : (n p : ℕ) → Wrong m A (l ++ k) n p → ◌or◌ (Wrong m A l) (Wrong m A k) n p
      of n p x = by (of_append l k x.0 x.1)
        where
          by : (x.0 ∈ l) ⊎ (x.0 ∈ k) → ◌or◌ (Wrong m A l) (Wrong m A k) n p
          by (inl h) = inl (x.0, h, x.2)
          by (inr h) = inr (x.0, h, x.2)

  wrong_one : (t : Text ℕ) {r : Fault} → Firsts (Bad m t.place (A t.read)) r → Firsts (Wrong m A (t ∷ [])) r
  wrong_one t f = firsts_as (Bad m t.place (A t.read)) (Wrong m A (t ∷ [])) (λ n p x. (t, (zero, refl), x)) of f
    where
      of : (n p : ℕ) → Wrong m A (t ∷ []) n p → Bad m t.place (A t.read) n p
      of n p x = by x.1.0 x.1.1
        where
          by : (i : ℕ) → Nth (t ∷ []) i x.0 → Bad m t.place (A t.read) n p
          by zero h = subst (λ (y : Text ℕ). Bad m y.place (A y.read) n p) h x.2
          by (suc i) h = absurd h

  -- ---- a text that may be missing

  pub maybe_absent : {s : List ℕ} → JudgesMaybe m A s None None
  maybe_absent {s} = record { says = says }
    where
      says : (o : Option (Text ℕ)) → MaybeIs s o None → Firsts (Wrong m A (present o)) None
      says none h = wrong_none
      says (some t) h = absurd h

  pub maybe_present : {s w : List ℕ} {p : Range} (ok : Bool) {r : Fault} → ShowsBytes s p.from p.to w → OfRead w A ok → r ≡ unless_of ok m p.from → JudgesMaybe m A s (Some p) r
  maybe_present {s} {p = p} ok {r} h o e = record { says = says }
    where
      says : (x : Option (Text ℕ)) → MaybeIs s x (Some p) → Firsts (Wrong m A (present x)) r
      says none i = absurd i
      says (some t) i = wrong_one t (text_fault m A ok i h o e)

  -- where the test tells of A
  pub maybe_tried : {T : List ℕ → Bool → Type 0} {s : List ℕ} (x : rust.Option Range) {r : Fault} → ((w : List ℕ) (ok : Bool) → T w ok → OfRead w A ok)
      → Tries T m s x r → JudgesMaybe m A s x r
  maybe_tried None tells e = rw e maybe_absent
  maybe_tried (Some p) tells e = maybe_present e.1 e.2 (tells e.0 e.1 e.3) e.4

-- ---- the rules

pub version_judged : {s w : List ℕ} {p : Range} (ok : Bool) {r : Fault} → ShowsBytes s p.from p.to w → Tells ok (w ≡ bytes "1_2") → r ≡ unless_of ok 10 p.from → JudgesVersion s p r
version_judged ok h t e = record { says = λ x i. text_fault 10 (λ (v : List ℕ). v ≡ bytes "1_2") ok i h (tells_word (bytes "1_2") refl ok t) e }

-- what is asked of the identifications, one after another
module _ (f : Identification ℕ → Option (Text ℕ)) (g : Option (Identification ℕ) → Option (Text ℕ)) (of_none : g none ≡ none) (of_some : (x : Identification ℕ) → g (some x) ≡ f x) where
  asked_last : (o : Option (Identification ℕ)) → present (g o) ≡ gather (λ (x : Identification ℕ). present (f x)) (present o)
  asked_last none = ap present of_none
  asked_last (some x) = ap present (of_some x) ∙ sym (append-nil (present (f x)))

  asked : (h : Heading ℕ) (o : Option (Identification ℕ)) → present (g (identified_by h)) ++ present (g o) ≡ gather (λ (x : Identification ℕ). present (f x)) (identified_in h ++ present o)
  asked (reference t) o = ap (λ (u : Option (Text ℕ)). present u ++ present (g o)) of_none ∙ asked_last o
  asked (application x t) o = ap (λ (u : Option (Text ℕ)). present u ++ present (g o)) (of_some x) ∙ ap (λ (k : List (Text ℕ)). present (f x) ++ k) (asked_last o)

pub dates_judged : {s : List ℕ} {produced filed first : rust.Option Range} (a b c d : Fault) {r : Fault} → JudgesMaybe 11 Date s produced a → JudgesMaybe 11 Date s filed b → JudgesMaybe 11 Date s first c
    → Earlier b c d → Earlier a d r → JudgesDates s produced filed first r
dates_judged a b c d {r} ja jb jc x y =
    record {
      says =
          λ l p h k.
          let P = present l.production_date in
          let H = present (filed_in (identified_by l.heading)) in
          let E = present (filed_in l.earliest) in
          subst (λ (z : List (Text ℕ)). Firsts (Wrong 11 Date (P ++ z)) r) (asked (λ (i : Identification ℕ). i.filed) filed_in refl (λ i. refl) l.heading l.earliest)
          (wrong_both 11 Date P (H ++ E) (ja.says l.production_date p) (wrong_both 11 Date H E (jb.says (filed_in (identified_by l.heading)) h) (jc.says (filed_in l.earliest) k) x) y);
    }

pub offices_judged : {s : List ℕ} {office first : rust.Option Range} (a b : Fault) {r : Fault} → JudgesMaybe 12 (Two is_upper) s office a → JudgesMaybe 12 (Two is_upper) s first b
    → Earlier a b r → JudgesOffices s office first r
offices_judged a b {r} ja jb x =
    record {
      says =
          λ l h k.
          let H = present (office_in (identified_by l.heading)) in
          let E = present (office_in l.earliest) in
          subst (λ (z : List (Text ℕ)). Firsts (Wrong 12 (Two is_upper) z) r) (asked (λ (i : Identification ℕ). i.office) office_in refl (λ i. refl) l.heading l.earliest)
          (wrong_both 12 (Two is_upper) H E (ja.says (office_in (identified_by l.heading)) h) (jb.says (office_in l.earliest) k) x);
    }

-- ---- languages

pub title_over : {s : List ℕ} {at : ℕ} {r : Found Range} → FindsSpoken (bytes "InventionTitle") s at r → Over (child (spoken (bytes "InventionTitle"))) (Not is_blank) s at r.next
title_over f = record { is = λ x e d fol. (f x e d fol).next }

codes_more : (l : List (Spoken ℕ)) (x : Spoken ℕ) → codes l ++ (x.language_code ∷ []) ≡ codes (l ++ (x ∷ []))
codes_more [] x = refl
codes_more (y ∷ l) x = ap (λ (k : List (Text ℕ)). y.language_code ∷ k) (codes_more l x)

-- one title more
pub title_more : {s : List ℕ} (l : List (Spoken ℕ)) (x : Spoken ℕ) {p : Range} (a b : Fault) {r : Fault} → Firsts (Wrong 13 (Two is_lower) (codes l)) a → IsPart s x.language_code p
    → JudgesMaybe 13 (Two is_lower) s (Some p) b → Earlier a b r → Firsts (Wrong 13 (Two is_lower) (codes (l ++ (x ∷ [])))) r
title_more l x a b {r} f i j e =
    subst (λ (k : List (Text ℕ)). Firsts (Wrong 13 (Two is_lower) k) r) (codes_more l x)
    (wrong_both 13 (Two is_lower) (codes l) (x.language_code ∷ []) f (j.says (some x.language_code) i) e)

-- the titles from `first` up to `at` were seen, and this is their first fault
abbrev pub TitlesSeen : List ℕ → ℕ → ℕ → Fault → Type 0
TitlesSeen s first at fault = Seen (child (spoken (bytes "InventionTitle"))) totalled s first at (λ (l : List (Spoken ℕ)). Firsts (Wrong 13 (Two is_lower) (codes l)) fault)

pub titles_none : {s : List ℕ} (first : ℕ) → TitlesSeen s first first None
titles_none first = seen_none (child (spoken (bytes "InventionTitle"))) totalled first (λ (l : List (Spoken ℕ)). Firsts (Wrong 13 (Two is_lower) (codes l)) None) (wrong_none 13 (Two is_lower))

module _ {s : List ℕ} {first at : ℕ} {fault : Fault} {t : Bool} (here : TellsTag (bytes "InventionTitle") totalled s at t) (seen : TitlesSeen s first at fault) where
  pub titles_next : {x : Found Range} (own : Fault) {r : Fault} → t ≡ true → FindsSpoken (bytes "InventionTitle") s at x → JudgesMaybe 13 (Two is_lower) s (Some x.part) own
      → Earlier fault own r → TitlesSeen s first x.next r
  titles_next own {r} h f j e =
      seen_next (bytes "InventionTitle") (child (spoken (bytes "InventionTitle"))) (spoken_leads (bytes "InventionTitle")) totalled (record { clash = refl; sharps = refl })
      (λ (l : List (Spoken ℕ)). Firsts (Wrong 13 (Two is_lower) (codes l)) fault) (λ (l : List (Spoken ℕ)). Firsts (Wrong 13 (Two is_lower) (codes l)) r) h here seen (title_over f)
      (λ done y n d fol g. title_more done y fault own g (f y n d fol).part j e)

  pub titles_stuck : {x : Found Range} (r : Found Fault) → t ≡ true → FindsSpoken (bytes "InventionTitle") s at x → x.next ≤ at → JudgesTitles s first r
  titles_stuck r h f n =
      record {
        says =
            λ l e d fol.
            absurd
            (seen_stuck (bytes "InventionTitle") (child (spoken (bytes "InventionTitle"))) (spoken_leads (bytes "InventionTitle")) totalled (record { clash = refl; sharps = refl })
            (λ (l : List (Spoken ℕ)). Firsts (Wrong 13 (Two is_lower) (codes l)) fault) h here seen (title_over f) n l e d fol);
      }

  pub titles_done : t ≡ false → JudgesTitles s first (record { part = fault; next = at })
  titles_done h =
      record {
        says =
            seen_all (bytes "InventionTitle") (child (spoken (bytes "InventionTitle"))) (spoken_leads (bytes "InventionTitle")) totalled (record { clash = refl; sharps = refl })
            (λ (l : List (Spoken ℕ)). Firsts (Wrong 13 (Two is_lower) (codes l)) fault) h here seen;
      }

-- the languages of the names
spoken_by : (a b : Option (Party ℕ)) → present (language_in a) ++ present (language_in b) ≡ map (λ (x : Party ℕ). x.name.language_code) (present a ++ present b)
spoken_by none none = refl
spoken_by none (some b) = refl
spoken_by (some a) none = refl
spoken_by (some a) (some b) = refl

pub languages_judged : {s : List ℕ} {applicant inventor : rust.Option Range} {titles : ℕ} {x : Found Fault} (a b d : Fault) {r : Fault} → JudgesMaybe 13 (Two is_lower) s applicant a
    → JudgesMaybe 13 (Two is_lower) s inventor b → JudgesTitles s titles x → Earlier a b d → Earlier d x.part r
    → JudgesLanguages s applicant inventor titles (record { part = r; next = x.next })
languages_judged a b d {r} ja jb jt y z =
    record {
      says =
          λ l e h k st fol.
          let t = jt.says l.titles e st fol in
          let P = present (language_in l.applicant) in
          let Q = present (language_in l.inventor) in (
            subst (λ (u : List (Text ℕ)). Firsts (Wrong 13 (Two is_lower) (u ++ codes l.titles)) r) (spoken_by l.applicant l.inventor)
                (wrong_both 13 (Two is_lower) (P ++ Q) (codes l.titles) (wrong_both 13 (Two is_lower) P Q (ja.says (language_in l.applicant) h) (jb.says (language_in l.inventor) k) y) t.0 z),
            t.1,
          );
    }

-- ---- the header

abbrev Parts : Listing ℕ → ℕ → ℕ → Type 0
Parts l =
    ◌or◌ (◌or◌ (Bad 10 l.dtd_version.place (l.dtd_version.read ≡ bytes "1_2")) (Wrong 11 Date (dates l)))
    (◌or◌ (Wrong 12 (Two is_upper) (offices l)) (Wrong 13 (Two is_lower) (languages l)))

parts_in : (l : Listing ℕ) (n p : ℕ) → Parts l n p → InHeader l n p
parts_in l n p (inl (inl x)) = rw (x.0, x.1) (rule_10 x.2)
parts_in l n p (inl (inr x)) = rw (x.2.0, x.2.1) (rule_11 x.0 x.1 x.2.2)
parts_in l n p (inr (inl x)) = rw (x.2.0, x.2.1) (rule_12 x.0 x.1 x.2.2)
parts_in l n p (inr (inr x)) = rw (x.2.0, x.2.1) (rule_13 x.0 x.1 x.2.2)

in_parts : (l : Listing ℕ) (n p : ℕ) → InHeader l n p → Parts l n p
in_parts l n p (rule_10 h) = inl (inl (refl, refl, h))
in_parts l n p (rule_11 t i h) = inl (inr (t, i, (refl, refl, h)))
in_parts l n p (rule_12 t i h) = inr (inl (t, i, (refl, refl, h)))
in_parts l n p (rule_13 t i h) = inr (inr (t, i, (refl, refl, h)))

-- no blank stands before the sequences, or before what closes the listing
behind_total : {s : List ℕ} {l : Listing ℕ} {at : ℕ} (b : Behind s l at) → Not is_blank (drop b.next s)
behind_total {s} {l} b =
    let k = bytes "<SequenceData" in
    let d = b.sequences in
    before (Not is_blank) d
    (starts_sharp is_blank (k ∷ closing) refl (d.word ++ drop b.end s)
    (each_starts whole k (child sequence) (leads_by k (child sequence) sequence_leads) closing l.sequences b.next d.word (drop b.end s) d.laid b.closes))

pub header_judged : {s : List ℕ} {h : FoundHeader} {x : Found Fault} {y : Found Range} (a b c f g : Fault) {r : Fault} → FindsHeader s h → JudgesVersion s h.version a
    → JudgesDates s h.produced h.heading.filed h.earliest.filed b → JudgesOffices s h.heading.office h.earliest.office c
    → JudgesLanguages s h.applicant h.inventor h.titles x → Finds (child (leaf (bytes "SequenceTotalQuantity"))) (Not is_blank) s x.next y
    → Earlier a b f → Earlier c x.part g → Earlier f g r → JudgesHeader s (record { fault = r; total = y.part; first = y.next })
header_judged a b c f g found ja jb jc jd total e1 e2 e3 =
    record {
      says =
          λ l d.
          let h = found l d in
          let k = h.behind in
          let A = Bad 10 l.dtd_version.place (l.dtd_version.read ≡ bytes "1_2") in
          let B = Wrong 11 Date (dates l) in
          let C = Wrong 12 (Two is_upper) (offices l) in
          let D = Wrong 13 (Two is_lower) (languages l) in
          let t = jd.says l k.stop h.applicant h.inventor k.titles (starts_at (bytes "<SequenceTotalQuantity") (leaf_leads (bytes "SequenceTotalQuantity") l.total) k.total) in
          let y = total l.total k.next (from t.1 k.total) (behind_total k) in
          let fab = firsts_or A B (ja.says l.dtd_version h.version) (jb.says l h.produced h.heading.filed h.earliest.filed) e1 in
          let fcd = firsts_or C D (jc.says l h.heading.office h.earliest.office) t.0 e2 in
          record {
            fault = firsts_as (Parts l) (InHeader l) (parts_in l) (in_parts l) (firsts_or (◌or◌ A B) (◌or◌ C D) fab fcd e3);
            total = y.part;
            end = k.end;
            sequences = from y.next k.sequences;
            closes = k.closes;
          };
    }
