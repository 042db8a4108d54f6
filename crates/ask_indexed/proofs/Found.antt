-- What an index finds, from its numbers; and where that stands in the listing.
use Prim.Native.Nat.{ℕ, ◌+◌}
use native.Mathlib.Omega.{arith}
use mathlib.Core.Path.{◌≡◌, refl, sym, ap, ◌∙◌, subst}
use mathlib.Core.Logic.{inl}
use mathlib.Core.List.{List, [], ◌++◌}
use mathlib.Core.Option.{none-ne-some}
use Rattle.std.specs.Prelude.{Option, Some, None, Result, Ok, Err}
use Rattle.paper.specs.declared.Refused.{Refused}
use lib.ListN.{length, drop, take-append-drop}
use lib.Seq.{drop-drop}
use Rattle.paper.specs.Bytes.{bytes, raw}
use Rattle.paper.specs.Lists.{◌∈◌}
use Rattle.paper.specs.Tree.{Text, features_of, feature_texts}
use Rattle.paper.specs.Layout.{child, feature, sequence}
use Rattle.paper.specs.Locations.{Location, Locates}
use Rattle.paper.specs.Rules.{rule_24}
use Rattle.paper.specs.Answers.{refuse, give, FindsSequence, FindsFeature}
use Rattle.paper.specs.Answers as paper
use Rattle.paper.specs.Demands.{StatedStretch}
use Rattle.paper.proofs.Lists.{number_in}
use Rattle.paper.proofs.Locate.{locate_complete}
use Rattle.paper.proofs.Inside.{laid_out}
use Rattle.paper.proofs.Shown.{residues_stated, feature_stated}
use Rattle.paper.proofs.Index.{fits}
use Rattle.read_steps.specs.Follow.{closing}
use Rattle.walk_steps.specs.Stands.{IsPart}
use Rattle.walk_steps.specs.declared.Range.{Range}
use Rattle.walk_items.specs.Items.{IsFeature, FeatureFrom}
use Rattle.walk_items.specs.declared.FoundFeature.{FoundFeature}
use Rattle.walk_items.proofs.Sequences.{sequence_leads}
use Rattle.walk_items.proofs.Inner.{Somewhere, item_stands, feature_stands}
use Rattle.index_find.specs.Finds.{RangeOf, NoBody, BodyFound, EntryFound}
use Rattle.index_find.specs.declared.Body.{Body}
use Rattle.index_find.specs.declared.Entry.{Entry}
use Rattle.ask_index.specs.Takes.{IndexOf}
use Rattle.ask_found.proofs.Accepted.{feature_keeps}
use Rattle.ask_indexed.specs.Finds.{Refuses, checker, later, SequenceRefused, FeatureRefused, BodyHere, BodyAsked, EntryHere}

-- ---- by its numbers

module _ {w x : List ℕ} {k : ℕ} where
  pub body_found : IndexOf w x → (y : Result Body Refused) → BodyFound x k y → BodyAsked w x k y
  body_found i (Err r) f = later i (none_such (f.says i.listing i.is (fits i.accepted)))
    where
      none_such : {n p : ℕ} → NoBody i.listing k n p → FindsSequence w k (refuse n p)
      none_such (NoBody.no_sequence h) = paper.no_sequence i.accepted h
      none_such (NoBody.skipped s m h) = paper.skipped s i.accepted m h
  body_found i (Ok b) f =
      let z = f.says i.listing i.is (fits i.accepted) in
      record { index = i; asked = z.0; numbered = z.1; finds = paper.sequence i.accepted z.1 z.2; is = z.3 }

  module _ {j : ℕ} {b : Body} (i : BodyHere w x k b) {y : Option Entry} (f : EntryFound x b j y) where
    -- what is promised of an entry, of the variant that it is
    entry_in : {z : Option Entry} → y ≡ z → EntryFound x b j z
    entry_in e = subst (EntryFound x b j) e f

    pub entry_missing : y ≡ None → Refuses w x (FeatureRefused w k j) 32 0
    entry_missing e = later i.index (paper.no_feature i.finds ((entry_in e).says i.asked i.is))

    pub entry_found : {e : Entry} → y ≡ Some e → EntryHere w x k j b e
    entry_found q =
        let z = (entry_in q).says i.asked i.is in
        record { body = i; asked = z.0; numbered = z.1; key = z.2; location = z.3 }

-- a refusal of the sequence comes first
pub refused_earlier : {w x : List ℕ} {k j n p : ℕ} → Refuses w x (SequenceRefused w k) n p → Refuses w x (FeatureRefused w k j) n p
refused_earlier (checker c) = checker c
refused_earlier (later i f) = later i (paper.earlier f)

-- ---- in the listing

-- a text that stands as it is stated is found where it stands
pub stated_part : {w : List ℕ} {t : Text ℕ} {r : Range} → StatedStretch w t → RangeOf t r → IsPart w t r
stated_part {w} {t} {r} s h =
    let n = length (raw t.read) in
    let to : t.place + n ≡ r.to = sym h.behind in
    record {
      first = h.first;
      behind = h.behind;
      inside = omega (arith, h.first, s.inside);
      here = ap (λ (k : ℕ). drop k w) h.first
          ∙ sym (take-append-drop n (drop t.place w))
          ∙ ap (λ (y : List ℕ). y ++ drop n (drop t.place w)) s.holds
          ∙ ap (λ (y : List ℕ). raw t.read ++ y) (drop-drop n t.place w ∙ ap (λ (k : ℕ). drop k w) to);
    }

module _ {w x : List ℕ} {k : ℕ} {b : Body} (i : BodyHere w x k b) where
  pub residues_part : IsPart w i.asked.residues b.residues
  residues_part =
      let l = i.index.listing in
      stated_part (residues_stated (laid_out i.index.accepted) i.asked (number_in l.sequences k i.asked i.numbered)) i.is.residues

  -- the sequence itself stands somewhere
  pub body_stands : Somewhere (child sequence) w i.asked
  body_stands =
      let y = i.index in
      item_stands (bytes "SequenceData") (child sequence) sequence_leads closing (record { clash = refl; sharps = refl }) y.closes y.listing.sequences y.sequences
      i.numbered

-- an empty text is no location
no_location : (t : Location) → ¬ Locates t []
no_location t h = none-ne-some t (sym refl ∙ locate_complete [] t h)

module _ {w x : List ℕ} {k j : ℕ} {b : Body} {e : Entry} (i : EntryHere w x k j b e) where
  pub feature_given : FindsFeature w k j (give (i.body.asked, i.asked))
  feature_given = paper.feature i.body.finds i.numbered

  stated : (t : Text ℕ) → t ∈ feature_texts i.asked → StatedStretch w t
  stated =
      let y = i.body in
      let l = y.index.listing in
      feature_stated (laid_out y.index.accepted) y.asked (number_in l.sequences k y.asked y.numbered) i.asked
      (number_in (features_of y.asked) j i.asked i.numbered)

  pub key_part : IsPart w i.asked.key e.key
  key_part = stated_part (stated i.asked.key (0, refl)) i.key

  pub location_part : IsPart w i.asked.location e.location
  location_part = stated_part (stated i.asked.location (1, refl)) i.location

  -- rule 24 isn't broken
  pub location_some : ¬ (i.asked.location.read ≡ [])
  location_some h =
      (feature_keeps feature_given).feature 24 i.asked.location.place
      (inl (rule_24 (λ t l. no_location t (subst (Locates t) h l))))

  pub feature_there : Somewhere (child feature) w i.asked
  feature_there = feature_stands i.body.asked (body_stands i.body).stands i.numbered

  -- what is found behind its location is it
  pub feature_is : {g : FoundFeature} → FeatureFrom w e.key e.location g → (y : Somewhere (child feature) w i.asked) → IsFeature w i.asked y.end g
  feature_is f y = f.says i.asked y.at y.end y.stands y.follows key_part location_part location_some
