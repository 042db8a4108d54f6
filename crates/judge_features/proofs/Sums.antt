-- The loop over the features, and the table from its sum.
use Rattle.std.specs.Prelude.{None, Some}
use Rattle.std.specs.Prelude as rust
use Prim.Native.Nat.{ℕ, ◌+◌, ◌≤◌, ◌<◌}
use native.Mathlib.Decide.{dec_lt}
use native.Mathlib.Omega.{arith}
use mathlib.Core.Path.{◌≡◌, refl, sym, subst}
use mathlib.Core.Bool.{Bool, true, false}
use mathlib.Core.List.{List, []}
use mathlib.Core.Option.{Option, none, some}
use lib.ListN.{length}
use Rattle.paper.specs.Bytes.{bytes, is_blank}
use Rattle.paper.specs.Layout.{child, feature}
use Rattle.paper.specs.Tree.{Table, Sequence, Feature, features_in, features_of}
use Rattle.paper.specs.Rules.{table_place}
use Rattle.read_steps.specs.Follow.{Not, closing}
use Rattle.walk_steps.specs.Stands.{Over, TellsChild}
use Rattle.walk_items.specs.Items.{TableIs}
use Rattle.walk_items.specs.declared.FoundTable.{FoundTable}
use Rattle.walk_items.proofs.Sequences.{feature_leads}
use Rattle.judge_faults.specs.Known.{Knows}
use Rattle.judge_faults.specs.declared.Known.{Known}
use Rattle.judge_faults.specs.Counters.{up_to}
use Rattle.judge_faults.proofs.Counters.{up_more, up_full}
use Rattle.judge_faults.proofs.Seen.{Seen, seen_none, seen_next, seen_stuck, seen_all}
use Rattle.judge_features.specs.Featured.{JudgesFeature, nothing_yet, if_judged, if_unjudged, Adds, Tallied, Below, JudgesFeatures, CountedIn, IsTabled, Tables, JudgesTable}
use Rattle.judge_features.specs.declared.Role.{Role}
use Rattle.judge_features.specs.declared.Role.TheVariants as role
use Rattle.judge_features.specs.declared.Featured.{Featured}
use Rattle.judge_features.specs.declared.Tally.{Tally}
use Rattle.judge_features.specs.declared.Tabled.{Tabled}
use Rattle.judge_features.proofs.Tallies.{tally_none, tally_more}
use Rattle.judge_features.proofs.Tables.{finished}

-- ---- the loop

-- for whichever sequence it is, what has been seen of its features is added up
pub record Adding (s : List ℕ) (first at : ℕ) (known : Known) (a : Tally) : Type 0 where
  pub seen : (q : Sequence ℕ) → Knows s q known → Seen (child feature) closing s first at (λ (l : List (Feature ℕ)). Tallied q l a)
  pub below : Below a.counts at
  pub within : Below a.counts (length s)

pub adding_none : {s : List ℕ} {first : ℕ} {known : Known} {a : Tally} → a ≡ nothing_yet → Adding s first first known a
adding_none {s} {first} {known} e =
    rw e (record {
      seen = λ q k. seen_none (child feature) closing first (λ (l : List (Feature ℕ)). Tallied q l nothing_yet) (tally_none q 0);
      below = record { features = omega arith; judged = omega arith; unjudged = omega arith };
      within = record { features = omega arith; judged = omega arith; unjudged = omega arith };
    })

up_below : (limit n m : ℕ) → n ≤ m → up_to limit n ≤ m + 1
up_below limit n m h = by (dec_lt n limit)
  where
    by : Dec (n < limit) → up_to limit n ≤ m + 1
    by (yes g) = let e = up_more limit n g in omega (arith, e, h)
    by (no g) = let e = up_full limit n (omega arith) in omega (arith, e, h)

up_within : (limit n : ℕ) → n ≤ limit → up_to limit n ≤ limit
up_within limit n h = by (dec_lt n limit)
  where
    by : Dec (n < limit) → up_to limit n ≤ limit
    by (yes g) = let e = up_more limit n g in omega (arith, e, g)
    by (no g) = let e = up_full limit n (omega arith) in omega (arith, e, h)

judged_below : (r : Role) (limit n m : ℕ) → n ≤ m → if_judged r (up_to limit n) n ≤ m + 1
judged_below role.Source limit n m h = omega (arith, h)
judged_below role.Judged limit n m h = up_below limit n m h
judged_below role.Unjudged limit n m h = omega (arith, h)
judged_below role.Plain limit n m h = omega (arith, h)

unjudged_below : (r : Role) (limit n m : ℕ) → n ≤ m → if_unjudged r (up_to limit n) n ≤ m + 1
unjudged_below role.Source limit n m h = omega (arith, h)
unjudged_below role.Judged limit n m h = omega (arith, h)
unjudged_below role.Unjudged limit n m h = up_below limit n m h
unjudged_below role.Plain limit n m h = omega (arith, h)

judged_within : (r : Role) (limit n : ℕ) → n ≤ limit → if_judged r (up_to limit n) n ≤ limit
judged_within role.Source limit n h = h
judged_within role.Judged limit n h = up_within limit n h
judged_within role.Unjudged limit n h = h
judged_within role.Plain limit n h = h

unjudged_within : (r : Role) (limit n : ℕ) → n ≤ limit → if_unjudged r (up_to limit n) n ≤ limit
unjudged_within role.Source limit n h = h
unjudged_within role.Judged limit n h = h
unjudged_within role.Unjudged limit n h = up_within limit n h
unjudged_within role.Plain limit n h = h

-- a feature that is judged is passed
judged_over : {s : List ℕ} {at : ℕ} {known : Known} {x : Featured} → JudgesFeature s at known x → (q : Sequence ℕ) → Knows s q known → Over (child feature) (Not is_blank) s at x.next
judged_over j q k = record { is = λ f e d fol. (j.says q f e k d fol).next }

module _ {s : List ℕ} {first at : ℕ} {known : Known} {a : Tally} {x : Featured} {t : Bool} (h : t ≡ true) (here : TellsChild s at t)
    (w : Adding s first at known a) (j : JudgesFeature s at known x) where
  pub adding_more : {r : Tally} → at < length s → at < x.next → Adds (length s) a x r → Adding s first x.next known r
  adding_more {r} inside onward ad =
      record {
        seen =
            λ q k.
            seen_next (bytes "INSDFeature") (child feature) feature_leads closing (record { clash = refl; sharps = refl })
            (λ (l : List (Feature ℕ)). Tallied q l a) (λ (l : List (Feature ℕ)). Tallied q l r) h (here.tells (bytes "INSDFeature") refl) (w.seen q k) (judged_over j q k)
            (λ done f e d fol y. tally_more q (length s) done f ad (j.says q f e k d fol) y (omega (arith, w.below.features, inside)) (omega (arith, w.below.judged, inside)) (omega (arith, w.below.unjudged, inside)));
        below =
            record {
              features = omega (arith, onward, ad.features, up_below (length s) a.counts.features at w.below.features);
              judged = omega (arith, onward, ad.judged, judged_below x.role (length s) a.counts.judged at w.below.judged);
              unjudged = omega (arith, onward, ad.unjudged, unjudged_below x.role (length s) a.counts.unjudged at w.below.unjudged);
            };
        within =
            record {
              features = omega (arith, ad.features, up_within (length s) a.counts.features w.within.features);
              judged = omega (arith, ad.judged, judged_within x.role (length s) a.counts.judged w.within.judged);
              unjudged = omega (arith, ad.unjudged, unjudged_within x.role (length s) a.counts.unjudged w.within.unjudged);
            };
      }

  pub adding_stuck : x.next ≤ at → JudgesFeatures s first known a
  adding_stuck stuck =
      record {
        says =
            λ q k l e d fol.
            absurd
            (seen_stuck (bytes "INSDFeature") (child feature) feature_leads closing (record { clash = refl; sharps = refl }) (λ (l : List (Feature ℕ)). Tallied q l a) h (here.tells (bytes "INSDFeature") refl) (w.seen q k)
            (judged_over j q k) stuck l e d fol);
        below = w.within;
      }

pub adding_done : {s : List ℕ} {first at : ℕ} {known : Known} {a : Tally} {t : Bool} → t ≡ false → TellsChild s at t → Adding s first at known a
    → JudgesFeatures s first known a
adding_done {a = a} h here w =
    record {
      says =
          λ q k l e d fol.
          (seen_all (bytes "INSDFeature") (child feature) feature_leads closing (record { clash = refl; sharps = refl }) (λ (l : List (Feature ℕ)). Tallied q l a) h (here.tells (bytes "INSDFeature") refl) (w.seen q k) l e d fol).0;
      below = w.within;
    }

-- ---- the table

-- from the sum of all the features of q
tabled : {s : List ℕ} (q : Sequence ℕ) {known : Known} {a : Tally} {r : Tabled} {place : ℕ} → Knows s q known → Tallied q (features_of q) a
    → place ≡ table_place q.table q.residues → Tables a known.kind place r → IsTabled q r
tabled q {known} {a} {r} k t pl ta =
    record {
      fault = finished q a t known.kind k.kind r.fault pl ta.fault;
      counts = subst (CountedIn q (features_of q)) (sym ta.counts) t.counts;
    }

pub table_missing : {s : List ℕ} {t : rust.Option FoundTable} {known : Known} {a : Tally} {r : Tabled} → t ≡ None → a ≡ nothing_yet
    → Tables a known.kind known.residues.from r → JudgesTable s t known r
table_missing {s} {t} {known} {a} {r} h ea ta =
    record {
      says = λ q k i. by q k q.table refl (subst (TableIs s q.table) h i);
      below = rw (ta.counts, ea) (record { features = omega arith; judged = omega arith; unjudged = omega arith });
    }
  where
    by : (q : Sequence ℕ) → Knows s q known → (o : Option (Table ℕ)) → q.table ≡ o → TableIs s o None → IsTabled q r
    by q k none e i =
        tabled q k (subst (λ (y : Option (Table ℕ)). Tallied q (features_in y) a) (sym e) (subst (Tallied q []) (sym ea) (tally_none q 0)))
        (subst (λ (y : Option (Table ℕ)). known.residues.from ≡ table_place y q.residues) (sym e) k.residues.first) ta
    by q k (some x) e i = absurd i

pub table_there : {s : List ℕ} {t : rust.Option FoundTable} {known : Known} {a : Tally} {r : Tabled} (f : FoundTable) → t ≡ Some f → JudgesFeatures s f.first known a
    → Tables a known.kind f.place r → JudgesTable s t known r
table_there {s} {t} {known} {a} {r} f h j ta =
    record {
      says = λ q k i. by q k q.table refl (subst (TableIs s q.table) h i);
      below = rw ta.counts j.below;
    }
  where
    by : (q : Sequence ℕ) → Knows s q known → (o : Option (Table ℕ)) → q.table ≡ o → TableIs s o (Some f) → IsTabled q r
    by q k none e i = absurd i
    by q k (some x) e i =
        tabled q k (subst (λ (y : Option (Table ℕ)). Tallied q (features_in y) a) (sym e) (j.says q k x.features i.stop i.features i.closes))
        (subst (λ (y : Option (Table ℕ)). f.place ≡ table_place y q.residues) (sym e) i.is) ta
