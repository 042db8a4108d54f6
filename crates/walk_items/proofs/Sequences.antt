-- Features passed over, feature tables and sequences, found by their parts.
use Prim.Native.Nat.{ℕ}
use mathlib.Core.Path.{◌≡◌, refl, sym}
use mathlib.Core.Bool.{Bool, true, false}
use mathlib.Core.List.{List, ◌∷◌, ◌++◌}
use Rattle.std.specs.Prelude.{Some, None}
use Rattle.std.specs.Prelude as rust
use mathlib.Core.Option.{Option, none, some}
use lib.ListN.{drop}
use Rattle.paper.specs.Bytes.{bytes, is_blank}
use Rattle.paper.specs.Form.{Form, these, lit, ◌·◌, each, each⁺}
use Rattle.paper.specs.Tree.{Text, Feature, Table, Sequence, qualifiers_of}
use Rattle.paper.specs.Layout.{blanks, tag, close, attribute, leaf, child, child?, holding, holding?, qualifier, quals, feature, table, other_ids, inner, sequence}
use Rattle.read_bytes.specs.Words.{There}
use Rattle.read_steps.specs.Follow.{Not, Starts, anything, closing}
use Rattle.read_steps.proofs.Fronts.{Leads, leads_all, leads_seq, leads_less, leads_by, leads_sharp, whole, maybe_starts, each_starts, starts_sharp}
use Rattle.walk_steps.specs.Stands.{Stands, Ends, Over, Finds, FindsMaybe, entering, leaving, shutting, OpensSo, FindsAttribute}
use Rattle.walk_steps.specs.declared.Found.{Found}
use Rattle.walk_steps.specs.declared.Range.{Range}
use Rattle.walk_steps.specs.declared.Opened.{Opened}
use Rattle.walk_steps.proofs.Places.{part, join, wider, some_each, some_not, from}
use Rattle.walk_steps.proofs.Leaves.{starts_at, no_blank}
use Rattle.walk_steps.proofs.Elements.{Sharp, inside, held, within, missing_none, there_some, there_tells, tag_starts, tag_leads, leaf_leads}
use Rattle.walk_items.specs.Items.{MeetsQualifier, MeetsFeature, PassesFeature, feature_tail, FindsIds, FindsTable, MeetsSequence, residues_next, table_next, table_closing}
use Rattle.walk_items.specs.declared.FoundQualifier.{FoundQualifier}
use Rattle.walk_items.specs.declared.FoundFeature.{FoundFeature}
use Rattle.walk_items.specs.declared.FoundTable.{FoundTable}

-- ---- passed over

pub qualifier_over : {s : List ℕ} {at : ℕ} {r : FoundQualifier} → MeetsQualifier s at r → Over (child qualifier) (Not is_blank) s at r.next
qualifier_over f = record { is = λ q e d fol. (f q e d fol).next }

pub passes : {s : List ℕ} {g : FoundFeature} {a n : ℕ} → Over (each (child qualifier)) (Starts closing) s g.quals a → Ends (feature_tail g.long) (Not is_blank) s a n
    → PassesFeature s g n
passes over ends = record { is = λ f e i fol. ends.is e (from (over.is (qualifiers_of f) i.stop i.quals i.closes) i.ends) fol }

pub feature_over : {s : List ℕ} {at n : ℕ} {g : FoundFeature} → MeetsFeature s at g → PassesFeature s g n → Over (child feature) (Not is_blank) s at n
feature_over f p = record { is = λ x e d fol. p.is x e (f x e d fol) fol }

pub feature_leads : (f : Feature ℕ) → Leads (bytes "<INSDFeature") (child feature f)
feature_leads f =
    tag_leads (bytes "INSDFeature")
    (holding (bytes "INSDFeature")
    (child (leaf (bytes "INSDFeature_key")) f.key · child (leaf (bytes "INSDFeature_location")) f.location · child? quals f.quals))

pub sequence_leads : (q : Sequence ℕ) → Leads (bytes "<SequenceData") (child sequence q)
sequence_leads q =
    let k = bytes "<SequenceData" in
    let T = tag (bytes "SequenceData") in
    let N = attribute (bytes "sequenceIDNumber") q.number in
    leads_seq k (sequence q) blanks (leads_seq k (T · N) (holding (bytes "SequenceData") (child inner q)) (leads_seq k T N (leads_all k)))

-- ---- other-seqids

-- what is in them, whether they are missing, empty or not
abbrev flat : Option (Option (Text ℕ)) → Option (Text ℕ)
flat none = none
flat (some x) = x

id_sharp : (o : Option (Text ℕ)) → Sharp (child? (leaf (bytes "INSDSeqid")) o)
id_sharp o at w z d c =
    starts_sharp is_blank (bytes "<INSDSeqid" ∷ closing) refl (w ++ z)
    (maybe_starts whole (bytes "<INSDSeqid") (child (leaf (bytes "INSDSeqid"))) (leads_by (bytes "<INSDSeqid") (child (leaf (bytes "INSDSeqid"))) (leaf_leads (bytes "INSDSeqid")))
    closing o at w z d c)

pub ids_found : {s : List ℕ} {at n : ℕ} {here : Bool} {r : Opened} {x : Found (rust.Option Range)} → There (bytes "<INSDSeq_other-seqids") s at here → OpensSo (bytes "INSDSeq_other-seqids") here s at r → FindsMaybe (bytes "INSDSeqid") s r.first x
    → Ends (shutting (bytes "INSDSeq_other-seqids") r.long) (Not is_blank) s x.next n → FindsIds s at (record { part = here; next = n })
ids_found {s} h o f t g e d fol =
    let c = within (bytes "INSDSeq_other-seqids") (λ (x : Option (Text ℕ)). x ≡ none) (child? (leaf (bytes "INSDSeqid"))) id_sharp
    (λ (y : Option (Option (Text ℕ))). child? (leaf (bytes "INSDSeqid")) (flat y)) (λ at. refl) (λ l h at. rw h refl) (λ l at w g. g)
    table_next refl fol (there_tells table_next refl h) o g d in
    let y = f (bytes "</" ∷ table_next) (record { clash = refl; sharps = refl }) (flat g) c.0.stop c.0.children c.0.follows in
    record { part = c.1; next = t.is e (from y.next c.0.ends) (starts_sharp is_blank table_next refl (drop e s) fol) }

-- ---- a feature table

features_sharp : (l : List (Feature ℕ)) → Sharp (each⁺ (child feature) l)
features_sharp l at w z d c =
    starts_sharp is_blank (bytes "<INSDFeature" ∷ closing) refl (w ++ z)
    (each_starts whole (bytes "<INSDFeature") (child feature) (leads_by (bytes "<INSDFeature") (child feature) feature_leads) closing l at w z (some_each (child feature) l at w d) c)

abbrev Tabled : Table ℕ → Form
Tabled t = tag (bytes "INSDSeq_feature-table") · holding (bytes "INSDSeq_feature-table") (each⁺ (child feature) t.features) · blanks

-- behind its features stands its end tag
table_closes : {s : List ℕ} {at e : ℕ} → Stands (leaving (bytes "INSDSeq_feature-table")) s at e → Starts table_closing (drop at s)
table_closes d =
    let k = bytes "</INSDSeq_feature-table" in
    starts_at k (leads_seq k (close (bytes "INSDSeq_feature-table")) blanks (leads_seq k (these k · blanks) (lit ">") (leads_seq k (these k) blanks (leads_all k)))) d

-- a table is an element at its place
pub table_at : (t : Table ℕ) {s : List ℕ} {at e : ℕ} → Stands (child table t) s at e → (at ≡ t.place) × Stands (Tabled t) s at e
table_at t d =
    let u = part (table t) blanks d in
    (sym u.1.laid.0, join (wider (λ a w h. h.1) u.1) u.2)

table_leads : (t : Table ℕ) → Leads (bytes "<INSDSeq_feature-table") (child table t)
table_leads t = leads_seq (bytes "<INSDSeq_feature-table") (table t) blanks (λ at w d. leads_seq (bytes "<INSDSeq_feature-table") (tag (bytes "INSDSeq_feature-table")) (holding (bytes "INSDSeq_feature-table") (each⁺ (child feature) t.features)) (leads_all (bytes "<INSDSeq_feature-table")) at w d.1)

module _ {s : List ℕ} {at : ℕ} where
  pub table_absent : {q : Bool} → q ≡ false → There (bytes "<INSDSeq_feature-table") s at q
      → FindsTable s at (record { part = None; next = at })
  table_absent h t o e d fol =
      let k = missing_none (bytes "INSDSeq_feature-table") (child table) table_leads (t.no h) o d in
      record { table = rw k.0 tt; next = k.1 }

  pub table_present : {q : Bool} {a b c n : ℕ} → q ≡ true → There (bytes "<INSDSeq_feature-table") s at q → Ends (tag (bytes "INSDSeq_feature-table")) anything s at a
      → Ends entering (Not is_blank) s a b → Over (each (child feature)) (Starts table_closing) s b c → Ends (leaving (bytes "INSDSeq_feature-table")) (Not is_blank) s c n
      → FindsTable s at (record { part = Some (record { place = at; first = b }); next = n })
  table_present h t p i f l o e d fol =
      let k = there_some (bytes "INSDSeq_feature-table") (child table) table_leads residues_next fol ((there_tells residues_next refl t).other h) o d in
      let x = k.0 in
      let y = table_at x k.2 in
      let u = held (bytes "INSDSeq_feature-table") (each⁺ (child feature) x.features) (features_sharp x.features) p i y.1 in
      let g = wider (some_each (child feature) x.features) u.children in
      record {
        table = rw k.1 (record { is = y.0; some = some_not (child feature) x.features u.children; stop = u.end; features = g; closes = u.closes });
        next = l.is e (from (f.is x.features u.end g (table_closes u.leaves)) u.leaves) (starts_sharp is_blank residues_next refl (drop e s) fol);
      }

-- ---- a sequence

module _ (q : Sequence ℕ) where
  abbrev pub D : Form
  D = child (leaf (bytes "INSDSeq_length")) q.declared

  abbrev pub M : Form
  M = child (leaf (bytes "INSDSeq_moltype")) q.moltype

  abbrev pub B : Form
  B = child (leaf (bytes "INSDSeq_division")) q.division

  abbrev pub I : Form
  I = child? other_ids q.other_ids

  abbrev pub T : Form
  T = child? table q.table

  abbrev pub R : Form
  R = child (leaf (bytes "INSDSeq_sequence")) q.residues

  abbrev pub Children : Form
  Children = D · M · B · I · T · R

  children_sharp : Sharp Children
  children_sharp at w z c e =
      leads_sharp is_blank (bytes "<") Children refl
      (leads_seq (bytes "<") (D · M · B · I · T) R
      (leads_seq (bytes "<") (D · M · B · I) T
      (leads_seq (bytes "<") (D · M · B) I
      (leads_seq (bytes "<") (D · M) B (leads_seq (bytes "<") D M (leads_less (bytes "<") (bytes "INSDSeq_length") D (leaf_leads (bytes "INSDSeq_length") q.declared))))))) at w z c

  inner_sharp : Sharp (child inner q)
  inner_sharp at w z c e =
      leads_sharp is_blank (bytes "<INSDSeq") (child inner q) refl (tag_leads (bytes "INSDSeq") (holding (bytes "INSDSeq") Children)) at w z c

ids_leads : (o : Option (Text ℕ)) → Leads (bytes "<INSDSeq_other-seqids") (child other_ids o)
ids_leads o = tag_leads (bytes "INSDSeq_other-seqids") (holding? (bytes "INSDSeq_other-seqids") (o ≡ none) (child? (leaf (bytes "INSDSeqid")) o))

pub sequence_found : {s : List ℕ} {at a b c d g h : ℕ} {xn xd xm xb xr : Found Range} {ids : Found Bool} {tb : Found (rust.Option FoundTable)}
    → Ends (tag (bytes "SequenceData")) anything s at a → FindsAttribute (bytes "sequenceIDNumber") s a xn → Ends entering (Not is_blank) s xn.next b
    → Ends (tag (bytes "INSDSeq")) anything s b c → Ends entering (Not is_blank) s c d
    → Finds (child (leaf (bytes "INSDSeq_length"))) (Not is_blank) s d xd → Finds (child (leaf (bytes "INSDSeq_moltype"))) (Not is_blank) s xd.next xm
    → Finds (child (leaf (bytes "INSDSeq_division"))) (Not is_blank) s xm.next xb → FindsIds s xb.next ids → FindsTable s ids.next tb
    → Finds (child (leaf (bytes "INSDSeq_sequence"))) (Not is_blank) s tb.next xr
    → Ends (leaving (bytes "INSDSeq")) (Not is_blank) s xr.next g → Ends (leaving (bytes "SequenceData")) (Not is_blank) s g h
    → MeetsSequence s at
    (record { number = xn.part; declared = xd.part; moltype = xm.part; division = xb.part; ids = ids.part; table = tb.part; residues = xr.part; next = h })
sequence_found {s} {xn = xn} p pn i p' i' fd fm fb fi ft fr l l' q e st fol =
    let A = attribute (bytes "sequenceIDNumber") q.number in
    let u = part (sequence q) blanks st in
    let v = part (tag (bytes "SequenceData") · A) (holding (bytes "SequenceData") (child inner q)) u.1 in
    let w = part (tag (bytes "SequenceData")) A v.1 in
    let n = pn refl q.number v.0 (from (p.is w.0 w.1 tt) w.2) tt in
    let o = inside (bytes "SequenceData") (child inner q) (inner_sharp q) i (from n.next v.2) u.2 in
    let y = held (bytes "INSDSeq") (Children q) (children_sharp q) p' i' o.children in
    let k5 = part (D q · M q · B q · I q · T q) (R q) y.children in
    let k4 = part (D q · M q · B q · I q) (T q) k5.1 in
    let k3 = part (D q · M q · B q) (I q) k4.1 in
    let k2 = part (D q · M q) (B q) k3.1 in
    let k1 = part (D q) (M q) k2.1 in
    let rs : Starts residues_next (drop k5.0 s) = starts_at (bytes "<INSDSeq_sequence") (leaf_leads (bytes "INSDSeq_sequence") q.residues) k5.2 in
    let ts : Starts table_next (drop k4.0 s) =
    tag_starts (bytes "INSDSeq_feature-table") (child table) table_leads residues_next q.table k4.2 rs in
    let is : Starts (bytes "<INSDSeq_other-seqids" ∷ table_next) (drop k3.0 s) =
    tag_starts (bytes "INSDSeq_other-seqids") (child other_ids) ids_leads table_next q.other_ids k3.2 ts in
    let rd = fd q.declared k1.0 k1.1 (no_blank (bytes "<INSDSeq_moltype") refl (leaf_leads (bytes "INSDSeq_moltype") q.moltype) k1.2) in
    let rm = fm q.moltype k2.0 (from rd.next k1.2) (no_blank (bytes "<INSDSeq_division") refl (leaf_leads (bytes "INSDSeq_division") q.division) k2.2) in
    let rb = fb q.division k3.0 (from rm.next k2.2) (starts_sharp is_blank (bytes "<INSDSeq_other-seqids" ∷ table_next) refl (drop k3.0 s) is) in
    let ri = fi q.other_ids k4.0 (from rb.next k3.2) ts in
    let rt = ft q.table k5.0 (from ri.next k4.2) rs in
    let rr = fr q.residues y.end (from rt.next k5.2) (starts_sharp is_blank closing refl (drop y.end s) y.closes) in
    let eg = l.is o.end (from rr.next y.leaves) (starts_sharp is_blank closing refl (drop o.end s) o.closes) in
    record {
      number = n.part;
      declared = rd.part;
      moltype = rm.part;
      division = rb.part;
      ids = ri.part;
      table = rt.table;
      residues = rr.part;
      next = l'.is e (from eg o.leaves) fol;
    }
