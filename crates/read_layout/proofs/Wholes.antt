-- The root, the document type line and the whole text; and from the reading of the whole to what the paper says of it.
use Prim.Native.Nat.{ℕ, suc, ◌≤◌, ◌<◌}
use native.Mathlib.Decide.{dec_le}
use native.Mathlib.Omega.{arith}
use mathlib.Core.Path.{◌≡◌, refl, sym, ap, ◌∙◌, subst}
use mathlib.Core.Bool.{true}
use mathlib.Core.Option.{Option}
use mathlib.Core.List.{List, [], ◌∷◌, ◌++◌, append_assoc, append-nil}
use lib.ListN.{length, take, length-append}
use lib.Seq.{take-append_seam, length-take-le}
use Rattle.paper.specs.Bytes.{bytes, is_blank}
use Rattle.paper.specs.Form.{Form, these, lit, ◌·◌, each, each⁺}
use Rattle.paper.specs.Tree.{Text, Spoken, Sequence, Listing, Bare, forget}
use Rattle.paper.specs.Layout.{blanks, gap, tag, close, attribute, attribute?, leaf, spoken, child, holding, sequence, attributes, root, doctype, document, LaidOut, Writes}
use Rattle.paper.specs.Answers.{limit, Strays, Begins}
use Rattle.paper.proofs.Forms.{Ever, ev_seq, ev_these, ev_run, ev_gap, Evers, evs_both, evs_after, evs_maybe}
use Rattle.read_layout.specs.Says.{Refuses}
use Rattle.read_steps.specs.Reads.{Step, going, stuck, Lost, Reads, Passes, Tried}
use Rattle.read_steps.specs.Follow.{Not, Starts, StandsBefore, anything, nothing, closing, clashes, sharp, skip}
use Rattle.read_steps.proofs.Laws.{agree_le}
use Rattle.read_steps.proofs.Steps.{as_reads, seq, pass_then, then_pass}
use Rattle.read_steps.proofs.Fronts.{Leads, leads_seq, leads_all, leads_starts, leads_sharp, StartsBy, skip_blanks, skip_none}
use Rattle.read_tags.proofs.Tags.{leaf_element, spoken_element, holding_reads, ev_holding, some_reads, ev_attribute, sole_attribute, sole_attribute_optional, attribute_optional, attribute_starts, sole_holding, sure_gap, Inner, inner_leads}
use Rattle.read_steps.proofs.Soles.{Sole, Sure, sure_these, sure_run, sure_seq, sole_seq, sole_then, sole_after, sole_as}
use Rattle.read_layout.specs.Parts.{Enters, Attributes, Parties, listing, attributed, introduced, titled, totalled, close_tag}
use Rattle.read_layout.proofs.Runs.{Run, run_one, run_some, run_seq, run_reads, one_reads, run_children}
use Rattle.read_layout.proofs.Header.{sequence_element, parties_run, PartiesParts, to_parties}

-- ---- the root's attributes

abbrev produced : List (List ℕ)
produced = bytes "productionDate" ∷ close_tag

abbrev versioned : List (List ℕ)
versioned = bytes "softwareVersion" ∷ produced

abbrev softwared : List (List ℕ)
softwared = bytes "softwareName" ∷ versioned

-- one more attribute that may be missing
attribute_more : {A : Type 0} {L : A → Form} {F : List ℕ → Type 0} (name : List ℕ) (l : List (List ℕ)) → sharp is_blank (name ∷ []) ≡ true → clashes name l ≡ true
    → ((z : List ℕ) → StartsBy skip (name ∷ l) z → F z) → {s : List ℕ} {x y r : Step} → Reads L F s x y → Tried (attribute name) anything s y r
    → Reads (λ (p : A × Option (Text ℕ)). L p.0 · attribute? name p.1) (StartsBy skip l) s x r
attribute_more {L = L} name l named other under p q =
    seq {L = L} {M = attribute? name} (λ o at w z d n. under (w ++ z) (attribute_starts name named l other o at w z d n)) (evs_maybe (attribute name)) p
    (attribute_optional name named l other q)

abbrev AttributesParts : (((Text ℕ × Option (Text ℕ)) × Option (Text ℕ)) × Option (Text ℕ)) × Option (Text ℕ) → Form
AttributesParts p =
    attribute (bytes "dtdVersion") p.0.0.0.0
    · attribute? (bytes "fileName") p.0.0.0.1
    · attribute? (bytes "softwareName") p.0.0.1
    · attribute? (bytes "softwareVersion") p.0.1
    · attribute? (bytes "productionDate") p.1

module _ {s : List ℕ} where
  pub attributes_reads : {x a b c d r : Step} → Reads (attribute (bytes "dtdVersion")) anything s x a → Tried (attribute (bytes "fileName")) anything s a b
      → Tried (attribute (bytes "softwareName")) anything s b c → Tried (attribute (bytes "softwareVersion")) anything s c d
      → Tried (attribute (bytes "productionDate")) anything s d r → Reads attributed (StartsBy skip close_tag) s x r
  attributes_reads v f n o p =
      as_reads {L = AttributesParts} {M = attributed}
      (λ p at w. record { dtd_version = p.0.0.0.0; file_name = p.0.0.0.1; software_name = p.0.0.1; software_version = p.0.1; production_date = p.1 })
      (λ p at w d. d) (λ x at w d. (((((x.dtd_version, x.file_name), x.software_name), x.software_version), x.production_date), d, refl))
      (attribute_more (bytes "productionDate") close_tag refl refl (λ z n. n)
      (attribute_more (bytes "softwareVersion") produced refl refl (λ z n. n)
      (attribute_more (bytes "softwareName") versioned refl refl (λ z n. n)
      (attribute_more (bytes "fileName") softwared refl refl (λ z n. tt) v f) n) o) p)

ev_attributed : Evers attributed
ev_attributed at =
    let v = evs_both _ (attribute? (bytes "productionDate")) (evs_both _ (attribute? (bytes "softwareVersion")) (evs_both _ (attribute? (bytes "softwareName"))
    (evs_both (attribute (bytes "dtdVersion")) (attribute? (bytes "fileName")) (ev_attribute (bytes "dtdVersion")) (evs_maybe (attribute (bytes "fileName"))))
    (evs_maybe (attribute (bytes "softwareName")))) (evs_maybe (attribute (bytes "softwareVersion")))) (evs_maybe (attribute (bytes "productionDate"))) at in (
      record { dtd_version = v.0.0.0.0.0; file_name = v.0.0.0.0.1; software_name = v.0.0.0.1; software_version = v.0.0.1; production_date = v.0.1 },
      v.1,
      v.2,
    )

-- ---- what the root holds

pub titles_next : StandsBefore (bytes "InventionTitle") totalled
titles_next = record { clash = refl; sharps = refl }

pub sequences_last : StandsBefore (bytes "SequenceData") closing
sequences_last = record { clash = refl; sharps = refl }

titles_run : Run (each⁺ (child (spoken (bytes "InventionTitle")))) titled totalled
titles_run = run_some (spoken_element (bytes "InventionTitle")) totalled titles_next

total_run : Run (child (leaf (bytes "SequenceTotalQuantity"))) totalled (bytes "<SequenceData" ∷ [])
total_run = run_one (leaf_element (bytes "SequenceTotalQuantity")) _ refl

sequences_run : Run (each⁺ (child sequence)) (bytes "<SequenceData" ∷ []) closing
sequences_run = run_some sequence_element closing sequences_last

introduced_run : Run introduced (bytes "<ApplicationIdentification" ∷ bytes "<ApplicantFileReference" ∷ []) titled
introduced_run =
    record {
      starts = λ x at w z d n. parties_run.starts (((x.heading, x.earliest), x.applicant), x.inventor) at w z d n;
      ever = λ at. let v = parties_run.ever at in (to_parties v.0, v.1, v.2);
      sole =
          sole_as PartiesParts introduced (Starts titled) (λ p at. to_parties p) (λ x. (((x.heading, x.earliest), x.applicant), x.inventor)) (λ x at w d. (d, refl))
          parties_run.sole;
    }

abbrev Body : ((Parties × List (Spoken ℕ)) × Text ℕ) × List (Sequence ℕ) → Form
Body p =
    introduced p.0.0.0 · each⁺ (child (spoken (bytes "InventionTitle"))) p.0.0.1
    · child (leaf (bytes "SequenceTotalQuantity")) p.0.1 · each⁺ (child sequence) p.1

body_run : Run Body (bytes "<ApplicationIdentification" ∷ bytes "<ApplicantFileReference" ∷ []) closing
body_run = run_seq (run_seq (run_seq introduced_run titles_run) total_run) sequences_run

-- ---- the root

abbrev Root : List ℕ
Root = bytes "ST26SequenceListing"

abbrev Head : Attributes → Form
Head a = tag Root · attributed a

abbrev Rest : ((Parties × List (Spoken ℕ)) × Text ℕ) × List (Sequence ℕ) → Form
Rest p = holding Root (Body p)

-- behind its blanks the rest of the start tag starts with `>`
rest_past : (p : ((Parties × List (Spoken ℕ)) × Text ℕ) × List (Sequence ℕ)) (at : ℕ) (w z : List ℕ) → Rest p at w → StartsBy skip close_tag (w ++ z)
rest_past p at w z d =
    let l = inner_leads Root (run_children body_run refl) p in
    let e : skip (w ++ z) ≡ d.1 ++ z =
    ap skip (ap (λ (u : List ℕ). u ++ z) d.2 ∙ append_assoc d.0 d.1 z) ∙ skip_blanks d.0 (d.1 ++ z) d.3
    ∙ skip_none (d.1 ++ z) (leads_sharp is_blank (bytes ">") (Inner Root Body p) refl l _ d.1 z d.4) in
    subst (Starts close_tag) (sym e) (leads_starts (bytes ">") (Inner Root Body p) l _ d.1 z d.4)

ev_rest : Evers Rest
ev_rest = ev_holding Root (run_children body_run refl)

abbrev to_listing : Attributes × (((Parties × List (Spoken ℕ)) × Text ℕ) × List (Sequence ℕ)) → Listing ℕ
to_listing p = listing p.0 p.1.0.0.0 p.1.0.0.1 p.1.0.1 p.1.1

abbrev of_listing : Listing ℕ → Attributes × (((Parties × List (Spoken ℕ)) × Text ℕ) × List (Sequence ℕ))
of_listing l = (
  record {
    dtd_version = l.dtd_version;
    file_name = l.file_name;
    software_name = l.software_name;
    software_version = l.software_version;
    production_date = l.production_date;
  },
  (((record { heading = l.heading; earliest = l.earliest; applicant = l.applicant; inventor = l.inventor }, l.titles), l.total), l.sequences),
)

module _ {s : List ℕ} where
  pub titles_reads : {x y r : Step} → Reads (child (spoken (bytes "InventionTitle"))) (Not is_blank) s x y
      → Reads (each (child (spoken (bytes "InventionTitle")))) (Starts totalled) s y r → Reads (each⁺ (child (spoken (bytes "InventionTitle")))) (Starts totalled) s x r
  titles_reads p q = some_reads (spoken_element (bytes "InventionTitle")) totalled titles_next p q

  pub sequences_reads : {x y r : Step} → Reads (child sequence) (Not is_blank) s x y → Reads (each (child sequence)) (Starts closing) s y r
      → Reads (each⁺ (child sequence)) (Starts closing) s x r
  sequences_reads p q = some_reads sequence_element closing sequences_last p q

  pub root_reads : {x a b c d e f g r : Step} → Passes (tag Root) anything s x a → Reads attributed (StartsBy skip close_tag) s a b → Enters s b c
      → Reads introduced (Starts titled) s c d → Reads (each⁺ (child (spoken (bytes "InventionTitle")))) (Starts totalled) s d e
      → Reads (child (leaf (bytes "SequenceTotalQuantity"))) (Not is_blank) s e f → Reads (each⁺ (child sequence)) (Starts closing) s f g
      → Passes (close Root) anything s g r → Reads root anything s x r
  root_reads t v i p u n q c =
      as_reads {L = λ (p : Attributes × (((Parties × List (Spoken ℕ)) × Text ℕ) × List (Sequence ℕ))). Head p.0 · Rest p.1} {M = root}
      (λ p at w. to_listing p) (λ p at w d. d) (λ l at w d. (of_listing l, d, refl))
      (seq {L = Head} {M = Rest} (λ p at w z d n. rest_past p at w z d) ev_rest
      (pass_then {M = attributed} (λ a at w z d n. tt) ev_attributed t v)
      (holding_reads Root (run_children body_run refl) i.before i.opens i.after
      (run_reads (run_seq (run_seq introduced_run titles_run) total_run) sequences_run
      (run_reads (run_seq introduced_run titles_run) total_run (run_reads introduced_run titles_run p u) (one_reads _ refl n)) q) c))

ev_root : Evers root
ev_root at =
    let v = evs_both Head Rest (evs_after (tag Root) attributed (ev_these (bytes "<ST26SequenceListing")) ev_attributed) ev_rest at in
    (to_listing v.0, v.1, v.2)

root_sharp : (l : Listing ℕ) (at : ℕ) (w z : List ℕ) → root l at w → Not is_blank (w ++ z)
root_sharp l at w z d =
    leads_sharp is_blank (bytes "<ST26SequenceListing") (root l) refl
    (leads_seq (bytes "<ST26SequenceListing") (Head (of_listing l).0) (Rest (of_listing l).1)
    (leads_seq (bytes "<ST26SequenceListing") (tag Root) (attributes l) (leads_all (bytes "<ST26SequenceListing")))) at w z d

-- ---- the document type line

-- a word after one or more blanks
word : {F : Form} {s : List ℕ} {x y v r : Step} (k : List ℕ) → sharp is_blank (k ∷ []) ≡ true → Passes F anything s x y → Passes gap (Not is_blank) s y v
    → Passes (these k) anything s v r → Passes (F · gap · these k) anything s x r
word k named p b q =
    then_pass (λ at w z l g. leads_sharp is_blank k (these k) named (leads_all k) at w z l) (ev_these k) (then_pass (λ at w z l g. tt) ev_gap p b) q

module _ {s : List ℕ} where
  pub doctype_reads : {x a b c d e f g h r : Step} → Passes (lit "<!DOCTYPE") anything s x a → Passes gap (Not is_blank) s a b
      → Passes (lit "ST26SequenceListing") anything s b c → Passes gap (Not is_blank) s c d → Passes (lit "PUBLIC") anything s d e
      → Passes gap (Not is_blank) s e f → Passes (lit "\"-//WIPO//DTD Sequence Listing 1.2//EN\"") anything s f g → Passes gap (Not is_blank) s g h
      → Passes (lit "\"ST26SequenceListing_V1_2.dtd\">") anything s h r → Passes doctype anything s x r
  doctype_reads a b c d e f g h i = word _ refl (word _ refl (word _ refl (word _ refl a b c) d e) f g) h i

ev_word : (F : Form) (k : List ℕ) → Ever F → Ever (F · gap · these k)
ev_word F k e = ev_seq (F · gap) (these k) (ev_seq F gap e ev_gap) (ev_these k)

ev_doctype : Ever doctype
ev_doctype = ev_word _ _ (ev_word _ _ (ev_word _ _ (ev_word (lit "<!DOCTYPE") _ (ev_these (bytes "<!DOCTYPE")))))

leads_word : (F : Form) (k : List ℕ) → Leads (bytes "<!DOCTYPE") F → Leads (bytes "<!DOCTYPE") (F · gap · these k)
leads_word F k l = leads_seq (bytes "<!DOCTYPE") (F · gap) (these k) (leads_seq (bytes "<!DOCTYPE") F gap l)

doctype_sharp : (at : ℕ) (w z : List ℕ) → doctype at w → Not is_blank (w ++ z)
doctype_sharp at w z d =
    leads_sharp is_blank (bytes "<!DOCTYPE") doctype refl
    (leads_word _ _ (leads_word _ _ (leads_word _ _ (leads_word (lit "<!DOCTYPE") _ (leads_all (bytes "<!DOCTYPE")))))) at w z d

-- ---- the whole

abbrev declaration : List ℕ
declaration = bytes "<?xml version=\"1.0\" encoding=\"UTF-8\"?>"

module _ {s : List ℕ} where
  pub document_reads : {a b c d e f r : Step} → Passes (these declaration) anything s (going 0 0) a → Passes blanks (Not is_blank) s a b
      → Passes doctype anything s b c → Passes blanks (Not is_blank) s c d → Reads root anything s d e → Passes blanks (Not is_blank) s e f
      → Passes (these []) nothing s f r → Reads document nothing s (going 0 0) r
  document_reads p₁ p₂ p₃ p₄ p₅ p₆ p₇ =
      as_reads {L = λ (l : Listing ℕ). document l · these []} {M = document} (λ l at w. l)
      (λ l at w d. subst (document l at) (sym (d.2 ∙ ap (λ (v : List ℕ). d.0 ++ v) d.4 ∙ append-nil d.0)) d.3)
      (λ l at w d. (l, (w, [], sym (append-nil w), d, refl), refl))
      (then_pass (λ at w z l g. subst (Not is_blank) (sym (ap (λ (u : List ℕ). u ++ z) l ∙ g)) tt) (λ at. ([], refl))
      (then_pass (λ at w z l g. tt) (ev_run is_blank)
      (pass_then {M = root} (λ l at w z d g. root_sharp l at w z d) ev_root
      (then_pass (λ at w z l g. tt) (ev_run is_blank)
      (then_pass (λ at w z l g. doctype_sharp at w z l) ev_doctype (then_pass (λ at w z l g. tt) (ev_run is_blank) p₁ p₂) p₃) p₄) p₅) p₆) p₇)

no_rest : (x : List ℕ) → length x ≤ 0 → x ≡ []
no_rest [] h = refl
no_rest (b ∷ x) h = absurd (omega arith)

pub accepted : {s : List ℕ} (n f : ℕ) → Reads document nothing s (going 0 0) (going n f) → length s ≤ n → (l : Listing ℕ) × LaidOut l s
accepted {s} n f e h =
    let x = e.is.4 in
    let k : x.rest ≡ [] = no_rest x.rest
    (omega (arith, e.is.2, x.size, ap length x.split ∙ length-append x.word x.rest)) in
    let w : x.word ≡ s = sym (x.split ∙ ap (λ (u : List ℕ). x.word ++ u) k ∙ append-nil x.word) in
    (x.value, record { is = subst (document x.value 0) w x.laid })

-- more bytes than the limit
pub refused_long : (w : List ℕ) → limit < length w → Refuses w 1 0
refused_long w h = Refuses.too_long h

pub refused : {s : List ℕ} (k : ℕ) → Reads document nothing s (going 0 0) (stuck k) → Strays s k
refused {s} k e =
    record {
      stray = λ l d. lost.none l s [] d.is refl (ap (take (suc k)) (append-nil s));
      inside = lost.inside;
      begins = (lost.viable.0, lost.viable.1, record { is = lost.viable.2 });
      longest = λ j h b. bound j h b (dec_le j k);
    }
  where
    lost : Lost document nothing 0 s k
    lost = let x = e.is.2 in let h : e.is.0 ≡ k = omega (arith, e.is.1) in subst (Lost document nothing 0 s) h x

    bound : (j : ℕ) → j ≤ length s → Begins (take j s) → Dec (j ≤ k) → j ≤ k
    bound j h b (yes g) = g
    bound j h b (no g) =
        let x = take j s ++ b.1 in
        let a : take j x ≡ take j s = ap (λ (n : ℕ). take n x) (sym (length-take-le j s h)) ∙ take-append_seam (take j s) b.1 in
        absurd (lost.none b.0 x [] b.2.is refl (ap (take (suc k)) (append-nil x) ∙ agree_le (suc k) j x s (omega arith) a))

-- ---- bytes are laid out from at most one listing

sole_attributed : Sole attributed (StartsBy skip close_tag)
sole_attributed =
    sole_as AttributesParts attributed (StartsBy skip close_tag)
    (λ p at. record { dtd_version = p.0.0.0.0; file_name = p.0.0.0.1; software_name = p.0.0.1; software_version = p.0.1; production_date = p.1 })
    (λ x. ((((x.dtd_version, x.file_name), x.software_name), x.software_version), x.production_date)) (λ x at w d. (d, refl))
    (sole_more _ (StartsBy skip produced) (bytes "productionDate") close_tag refl refl (λ z n. n)
    (sole_more _ (StartsBy skip versioned) (bytes "softwareVersion") produced refl refl (λ z n. n)
    (sole_more _ (StartsBy skip softwared) (bytes "softwareName") versioned refl refl (λ z n. n)
    (sole_more (attribute (bytes "dtdVersion")) anything (bytes "fileName") softwared refl refl (λ z n. tt) (sole_attribute (bytes "dtdVersion") refl)))))
  where
    sole_more : {A : Type 0} (L : A → Form) (F : List ℕ → Type 0) (name : List ℕ) (l : List (List ℕ)) → sharp is_blank (name ∷ []) ≡ true → clashes name l ≡ true
        → ((z : List ℕ) → StartsBy skip (name ∷ l) z → F z) → Sole L F → Sole (λ (p : A × Option (Text ℕ)). L p.0 · attribute? name p.1) (StartsBy skip l)
    sole_more L F name l named other under s =
        sole_seq L (attribute? name) F (StartsBy skip l) (λ o at w z d n. under (w ++ z) (attribute_starts name named l other o at w z d n)) s
        (sole_attribute_optional name named l other)

sole_root : Sole root anything
sole_root =
    sole_as (λ (p : Attributes × (((Parties × List (Spoken ℕ)) × Text ℕ) × List (Sequence ℕ))). Head p.0 · Rest p.1) root anything
    (λ p at. to_listing p) of_listing (λ l at w d. (d, refl))
    (sole_seq Head Rest (StartsBy skip close_tag) anything (λ p at w z d n. rest_past p at w z d)
    (sole_after attributed (tag Root) anything (StartsBy skip close_tag) (λ a at w z d n. tt) (sure_these (bytes "<ST26SequenceListing") anything) sole_attributed)
    (sole_holding Root (run_children body_run refl)))

sure_doctype : Sure doctype anything
sure_doctype =
    sure_word _ _ refl (sure_word _ _ refl (sure_word _ _ refl (sure_word (lit "<!DOCTYPE") _ refl (sure_these (bytes "<!DOCTYPE") anything))))
  where
    sure_word : (F : Form) (k : List ℕ) → sharp is_blank (k ∷ []) ≡ true → Sure F anything → Sure (F · gap · these k) anything
    sure_word F k named s =
        sure_seq (F · gap) (these k) (Not is_blank) anything (λ at w z l g. leads_sharp is_blank k (these k) named (leads_all k) at w z l)
        (sure_seq F gap anything (Not is_blank) (λ at w z l g. tt) s sure_gap) (sure_these k anything)

sole_document : Sole document nothing
sole_document =
    sole_then (λ (l : Listing ℕ). these declaration · blanks · doctype · blanks · root l) blanks anything nothing (λ at w z l g. tt)
    (sole_after root (these declaration · blanks · doctype · blanks) (Not is_blank) anything (λ l at w z d g. root_sharp l at w z d)
    (sure_seq (these declaration · blanks · doctype) blanks anything (Not is_blank) (λ at w z l g. tt)
    (sure_seq (these declaration · blanks) doctype (Not is_blank) anything (λ at w z l g. doctype_sharp at w z l)
    (sure_seq (these declaration) blanks anything (Not is_blank) (λ at w z l g. tt) (sure_these declaration anything) (sure_run is_blank))
    sure_doctype) (sure_run is_blank)) sole_root)
    (λ at w x z y p q f g e. sure_run is_blank at w x z y p q (subst (Not is_blank) (sym f) tt) (subst (Not is_blank) (sym g) tt) e)

pub laid_once : {w : List ℕ} (l m : Listing ℕ) → LaidOut l w → LaidOut m w → l ≡ m
laid_once {w} l m a b = (sole_document l m 0 w w [] [] a.is b.is refl refl refl).0

-- and from at most one bare listing
pub writes_once : {w : List ℕ} (b c : Bare) → Writes b w → Writes c w → b ≡ c
writes_once b c x y = sym x.same ∙ ap (λ (l : Listing ℕ). forget l) (laid_once x.listing y.listing x.laid y.laid) ∙ y.same
