-- What was found in an accepted listing, from where its items stand; and the refusals 30 to 33.
use Prim.Native.Nat.{ℕ}
use mathlib.Core.Path.{◌≡◌, subst}
use mathlib.Core.Bool.{Bool, true, false}
use mathlib.Core.List.{List}
use Rattle.std.specs.Prelude.{Option, Some, None, Result, Ok, Err}
use Rattle.paper.specs.Layout.{child}
use Rattle.paper.specs.Layout as layout
use Rattle.paper.specs.Rules.{Skipped}
use Rattle.paper.specs.Answers.{refuse, give, CheckSays, FindsSequence, FindsFeature}
use Rattle.paper.specs.Answers as paper
use Rattle.paper.specs.declared.Figures.{Figures}
use Rattle.paper.specs.declared.Refused.{Refused}
use Rattle.paper.proofs.Inside.{laid_out}
use Rattle.value_words.specs.Reading.{Tells}
use Rattle.value_words.proofs.Tests.{tells_true, tells_false}
use Rattle.walk_items.specs.Items.{IsSequence}
use Rattle.walk_items.specs.Items as items
use Rattle.walk_items.specs.declared.FoundSequence.{FoundSequence}
use Rattle.walk_items.specs.declared.FoundFeature.{FoundFeature}
use Rattle.walk_items.specs.declared.FoundQualifier.{FoundQualifier}
use Rattle.walk_seek.specs.Items.{Here, PlaceIs, SeeksIn}
use Rattle.walk_seek.specs.Within.{FeatureIn, FeatureFound, QualifierFound}
use Rattle.judge_header.specs.Headers.{JudgesHeader}
use Rattle.judge_header.specs.declared.Headed.{Headed}
use Rattle.judge_texts.specs.Texts.{TellsSkipped}
use Rattle.ask_find.specs.Finds.{FirstIs, SequenceIs, FeatureIs, QualifierAsked}

pub first_found : {w : List ℕ} {x : Figures} {h : Headed} → CheckSays w (Ok x) → JudgesHeader w h → FirstIs w h.first x.total x.features
first_found c j =
    let y = j.says c.0 (laid_out c.1) in
    record {
      listing = c.0;
      accepted = c.1;
      totals = c.2.totals;
      featured = c.2.featured;
      end = y.end;
      sequences = y.sequences;
      closes = y.closes;
    }

-- ---- a sequence

module _ {w : List ℕ} {first total features k : ℕ} (f : FirstIs w first total features) {p : Option ℕ} (n : SeeksIn (child layout.sequence) w first k p) where
  sought : {r : Option ℕ} → p ≡ r → PlaceIs (child layout.sequence) w f.listing.sequences k r
  sought e = subst (PlaceIs (child layout.sequence) w f.listing.sequences k) e (n.says f.listing.sequences f.end f.sequences f.closes)

  pub no_sequence : p ≡ None → FindsSequence w k (refuse 30 0)
  no_sequence e = paper.no_sequence f.accepted (sought e)

  module _ {at : ℕ} {r : FoundSequence} {b : Bool} (e : p ≡ Some at) (found : items.MeetsSequence w at r) (tells : TellsSkipped w r.residues b) where
    here : Here (child layout.sequence) w f.listing.sequences k at
    here = sought e

    is : IsSequence w here.item here.end r
    is = found here.item here.end here.stands here.follows

    skips : Tells b (Skipped here.item)
    skips = tells.says here.item is.residues

    pub skipped_so : b ≡ true → FindsSequence w k (refuse 31 0)
    skipped_so h = paper.skipped here.item f.accepted here.numbered (tells_true b h skips)

    pub sequence_so : b ≡ false → SequenceIs w k r
    sequence_so h =
        record { asked = here.item; finds = paper.sequence f.accepted here.numbered (tells_false b h skips); end = here.end; is = is }

-- ---- a feature

pub no_feature : {w : List ℕ} {k j : ℕ} {s : FoundSequence} {y : Result FoundFeature Refused} {r : Refused} → SequenceIs w k s → FeatureFound w s j y → y ≡ Err r
    → FindsFeature w k j (refuse r.rule r.place)
no_feature {w} {k} {j} x f e =
    let z = subst (FeatureIn w x.asked j) e (f.says x.asked x.end x.is) in
    rw (z.0, z.1) (paper.no_feature x.finds z.2)

pub feature_so : {w : List ℕ} {k j : ℕ} {s : FoundSequence} {y : Result FoundFeature Refused} {f : FoundFeature} → SequenceIs w k s → FeatureFound w s j y
    → y ≡ Ok f → FeatureIs w k j s f
feature_so {w} {j = j} x f e = record { sequence = x; feature = subst (FeatureIn w x.asked j) e (f.says x.asked x.end x.is) }

-- the sequence and the feature that are found are those that the paper says
pub feature_given : {w : List ℕ} {k j : ℕ} {s : FoundSequence} {f : FoundFeature} (x : FeatureIs w k j s f)
    → FindsFeature w k j (give (x.sequence.asked, x.feature.asked))
feature_given x = paper.feature x.sequence.finds x.feature.numbered

-- ---- a qualifier

pub qualifier_asked : {w : List ℕ} {k j i : ℕ} {s : FoundSequence} {g : FoundFeature} → FeatureIs w k j s g → (y : Result FoundQualifier Refused) → QualifierFound w g i y
    → QualifierAsked w k j i y
qualifier_asked x (Err r) f =
    let z = f.says x.feature.asked x.feature.end x.feature.is in
    rw (z.0, z.1) (paper.no_qualifier (feature_given x) z.2)
qualifier_asked x (Ok r) f =
    let z = f.says x.feature.asked x.feature.end x.feature.is in
    record { asked = z.asked; finds = paper.qualifier (feature_given x) z.numbered; end = z.end; is = z.is }
