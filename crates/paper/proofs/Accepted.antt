-- Someone is accepted: one small listing is laid out and breaks no rule, so no definition here refuses everything. It has a sequence
-- of each sort and something for each rule to judge. tests/specimens/proved.xml has the same bytes: scripts/proved-listing compares.
use Prim.Native.Nat.{ℕ, ◌+◌, ◌≤◌}
use Prim.Native.String.{String}
use native.Mathlib.Omega.{arith}
use mathlib.Core.Path.{◌≡◌, refl, sym, ap, ◌∙◌, subst}
use mathlib.Core.Bool.{Bool, true, false, true≢false}
use mathlib.Core.Logic.{inl, inr}
use mathlib.Core.List.{List, [], ◌∷◌, ◌++◌, map}
use lib.ListN.{length}
use Rattle.paper.specs.Bytes.{bytes, among, all, same}
use Rattle.paper.specs.Lists.{◌∈◌, Count, end, has, lacks, gather}
use Rattle.paper.specs.Tree.{Qualifier, Feature, Sequence, Listing, mark_sequence, forget, qualifiers_of}
use Rattle.paper.specs.Layout.{child, table, sequence, document, LaidOut}
use Rattle.paper.specs.Values.{is_digit, is_upper, is_lower, Date}
use Rattle.paper.specs.Locations.{range, Member, join, Location, one, many, Locates, leaves_unjudged}
use Rattle.paper.specs.Rules.{dna, aa, is_symbol, undefined, Named, Coding, absent, Unjudged, excepted, other_code, located}
use Rattle.paper.specs.Answers.{limit, Counts, CheckSays, accepted}
use Rattle.std.specs.Prelude.{Ok}
use Rattle.paper.proofs.Lists.{every, in_map}
use Rattle.paper.proofs.Forms.{Evers, evs_maybe}
use Rattle.paper.proofs.Texts.{apart}
use Rattle.paper.proofs.Decimal.{decimal_number}
use Rattle.paper.proofs.Locate.{locate_sound, locates_once}
use Rattle.paper.proofs.Marks.{bare_exactly}
use Rattle.paper.proofs.Keeps.{Right, judged, skipped, Keeps, keeps_all}
use Rattle.paper.proofs.Built.{all_only, qualifier_of, feature_of, table_of, sequence_of, heading_of, document_of}

-- a line, and byte 10
abbrev line : String → List ℕ
line x = bytes x ++ bytes "\n"

pub listing : List ℕ
listing =
    gather line (
    "<?xml version=\"1.0\" encoding=\"UTF-8\"?>"
    ∷ "<!DOCTYPE ST26SequenceListing PUBLIC \"-//WIPO//DTD Sequence Listing 1.2//EN\" \"ST26SequenceListing_V1_2.dtd\">"
    ∷ "<ST26SequenceListing dtdVersion=\"1_2\" productionDate=\"2024-02-29\">"
    ∷ "<ApplicationIdentification>"
    ∷ "<IPOfficeCode>IB</IPOfficeCode>"
    ∷ "<ApplicationNumberText>PCT/IB2013/099999</ApplicationNumberText>"
    ∷ "</ApplicationIdentification>"
    ∷ "<InventionTitle languageCode=\"en\">Reverse strand &amp; its protein</InventionTitle>"
    ∷ "<SequenceTotalQuantity>3</SequenceTotalQuantity>"
    ∷ "<SequenceData sequenceIDNumber=\"1\">"
    ∷ "<INSDSeq>"
    ∷ "<INSDSeq_length>12</INSDSeq_length>"
    ∷ "<INSDSeq_moltype>DNA</INSDSeq_moltype>"
    ∷ "<INSDSeq_division>PAT</INSDSeq_division>"
    ∷ "<INSDSeq_feature-table>"
    ∷ "<INSDFeature>"
    ∷ "<INSDFeature_key>source</INSDFeature_key>"
    ∷ "<INSDFeature_location>1..12</INSDFeature_location>"
    ∷ "<INSDFeature_quals>"
    ∷ "<INSDQualifier>"
    ∷ "<INSDQualifier_name>organism</INSDQualifier_name>"
    ∷ "<INSDQualifier_value>synthetic construct</INSDQualifier_value>"
    ∷ "</INSDQualifier>"
    ∷ "<INSDQualifier>"
    ∷ "<INSDQualifier_name>mol_type</INSDQualifier_name>"
    ∷ "<INSDQualifier_value>other DNA</INSDQualifier_value>"
    ∷ "</INSDQualifier>"
    ∷ "</INSDFeature_quals>"
    ∷ "</INSDFeature>"
    ∷ "<INSDFeature>"
    ∷ "<INSDFeature_key>CDS</INSDFeature_key>"
    ∷ "<INSDFeature_location>join(complement(7..12),complement(1..6))</INSDFeature_location>"
    ∷ "<INSDFeature_quals>"
    ∷ "<INSDQualifier>"
    ∷ "<INSDQualifier_name>translation</INSDQualifier_name>"
    ∷ "<INSDQualifier_value>MKC</INSDQualifier_value>"
    ∷ "</INSDQualifier>"
    ∷ "</INSDFeature_quals>"
    ∷ "</INSDFeature>"
    ∷ "</INSDSeq_feature-table>"
    ∷ "<INSDSeq_sequence>ttagcatttcat</INSDSeq_sequence>"
    ∷ "</INSDSeq>"
    ∷ "</SequenceData>"
    ∷ "<SequenceData sequenceIDNumber=\"2\">"
    ∷ "<INSDSeq>"
    ∷ "<INSDSeq_length>4</INSDSeq_length>"
    ∷ "<INSDSeq_moltype>AA</INSDSeq_moltype>"
    ∷ "<INSDSeq_division>PAT</INSDSeq_division>"
    ∷ "<INSDSeq_feature-table>"
    ∷ "<INSDFeature>"
    ∷ "<INSDFeature_key>SOURCE</INSDFeature_key>"
    ∷ "<INSDFeature_location>1..4</INSDFeature_location>"
    ∷ "<INSDFeature_quals>"
    ∷ "<INSDQualifier>"
    ∷ "<INSDQualifier_name>ORGANISM</INSDQualifier_name>"
    ∷ "<INSDQualifier_value>synthetic construct</INSDQualifier_value>"
    ∷ "</INSDQualifier>"
    ∷ "<INSDQualifier>"
    ∷ "<INSDQualifier_name>MOL_TYPE</INSDQualifier_name>"
    ∷ "<INSDQualifier_value>protein</INSDQualifier_value>"
    ∷ "</INSDQualifier>"
    ∷ "</INSDFeature_quals>"
    ∷ "</INSDFeature>"
    ∷ "</INSDSeq_feature-table>"
    ∷ "<INSDSeq_sequence>MKCL</INSDSeq_sequence>"
    ∷ "</INSDSeq>"
    ∷ "</SequenceData>"
    ∷ "<SequenceData sequenceIDNumber=\"3\">"
    ∷ "<INSDSeq>"
    ∷ "<INSDSeq_length></INSDSeq_length>"
    ∷ "<INSDSeq_moltype></INSDSeq_moltype>"
    ∷ "<INSDSeq_division></INSDSeq_division>"
    ∷ "<INSDSeq_sequence>000</INSDSeq_sequence>"
    ∷ "</INSDSeq>"
    ∷ "</SequenceData>"
    ∷ "</ST26SequenceListing>"
    ∷ [])

-- ---- it is laid out

abbrev nucleotides : Evers (child sequence)
nucleotides =
    sequence_of "1" "12" "DNA" "PAT"
    (table_of
    (feature_of "source" "1..12" (qualifier_of "organism" "synthetic construct" ∷ qualifier_of "mol_type" "other DNA" ∷ []))
    (feature_of "CDS" "join(complement(7..12),complement(1..6))" (qualifier_of "translation" "MKC" ∷ []) ∷ []))
    "ttagcatttcat"

abbrev acids : Evers (child sequence)
acids =
    sequence_of "2" "4" "AA" "PAT"
    (table_of (feature_of "SOURCE" "1..4" (qualifier_of "ORGANISM" "synthetic construct" ∷ qualifier_of "MOL_TYPE" "protein" ∷ [])) [])
    "MKCL"

abbrev empty : Evers (child sequence)
empty = sequence_of "3" "" "" "" (evs_maybe (child table)) "000"

abbrev built : Evers document
built =
    document_of "1_2" "2024-02-29" (heading_of "IB" "PCT/IB2013/099999") "en" "Reverse strand & its protein" "3" nucleotides (acids ∷ empty ∷ [])

-- its tree, with the places of its texts
abbrev pub tree : Listing ℕ
tree = (built 0).0

pub laid : LaidOut tree listing
unfolding listing
laid = record { is = (built 0).2 }

short : length listing ≤ limit
unfolding listing
short = omega arith

-- ---- it keeps the rules

abbrev bare : Evers (child sequence) → Sequence (Unit {0})
bare s = mark_sequence (λ p. tt) (s 0).0

leap_day : Date (bytes "2024-02-29")
leap_day =
    record {
      year = bytes "2024";
      month = bytes "02";
      day = bytes "29";
      is = refl;
      year_digits = (refl, all_only is_digit (bytes "2024"));
      month_digits = (refl, all_only is_digit (bytes "02"));
      day_digits = (refl, all_only is_digit (bytes "29"));
      year_real = omega arith;
      month_real = (omega arith, omega arith);
      day_real = (omega arith, omega arith);
    }

-- where each residue is one of x, and u isn't, each is other than u
others : (x w : List ℕ) (u : ℕ) → among x u ≡ false → all (among x) w → Count (λ (b : ℕ). ¬ (b ≡ u)) w (length w)
others x [] u o a = end
others x (b ∷ w) u o a = has (λ e. true≢false (sym a.0 ∙ ap (among x) e ∙ o)) (others x w u o a.1)

abbrev part : Bool → ℕ → ℕ → Member
part c x y = record { complemented = c; piece = range false x false y }

twelve : Locates (one (part false 1 12)) (bytes "1..12")
twelve = locate_sound _ _ refl

four : Locates (one (part false 1 4)) (bytes "1..4")
four = locate_sound _ _ refl

abbrev joined : Location
joined = many false join (part true 7 12 ∷ part true 1 6 ∷ [])

joins : Locates joined (bytes "join(complement(7..12),complement(1..6))")
joins = locate_sound _ _ refl

nucleotides_right : Right dna (bare nucleotides)
nucleotides_right =
    record {
      is = refl;
      there = apart refl;
      division = refl;
      symbols = all_only (is_symbol dna) (bytes "ttagcatttcat");
      defined = 12;
      counted = others (bytes "acgt") (bytes "ttagcatttcat") (undefined dna) refl (all_only (among (bytes "acgt")) (bytes "ttagcatttcat"));
      enough = omega arith;
      declared = decimal_number 12 (omega arith);
      one = has refl (lacks (apart refl) end);
      sources = (
        (λ e. record { organism = has refl (lacks (apart refl) end); mol_type = lacks (apart refl) (has refl end); whole = refl }),
        ((λ e. absurd (apart refl e)), tt),
      );
      features = (
        record {
          located = record { location = _; is = twelve; inside = refl; acid = λ a. absurd (apart refl a) };
          coded = λ e. absurd (apart refl e);
          worded =
              record {
                row = _;
                is = record { member = (36, refl); keyed = refl };
                allowed = (inl (0, refl), (inl (1, refl), tt));
                required = ((_, (0, refl), refl), ((_, (1, refl), refl), tt));
              };
        },
        (
          record {
            located = record { location = _; is = joins; inside = refl; acid = λ a. absurd (apart refl a) };
            coded = λ e. record {
              letters = bytes "MKC*";
              codons =
                  record {
                    location = _;
                    located = joins;
                    inside = refl;
                    start = 1;
                    starts = absent (lacks (apart refl) end);
                    are = refl;
                  };
              translated = ((λ e. (refl, refl)), tt);
            };
            worded = record { row = _; is = record { member = (1, refl); keyed = refl }; allowed = (inr (18, refl), tt); required = tt };
          },
          tt,
        ),
      );
    }

acids_right : Right aa (bare acids)
acids_right =
    record {
      is = refl;
      there = apart refl;
      division = refl;
      symbols = all_only (is_symbol aa) (bytes "MKCL");
      defined = 4;
      counted = others (bytes "CKLM") (bytes "MKCL") (undefined aa) refl (all_only (among (bytes "CKLM")) (bytes "MKCL"));
      enough = omega arith;
      declared = decimal_number 4 (omega arith);
      one = has refl end;
      sources = (
        (λ e. record { organism = has refl (lacks (apart refl) end); mol_type = lacks (apart refl) (has refl end); whole = refl }),
        tt,
      );
      features = (
        record {
          located = record { location = _; is = four; inside = refl; acid = λ a. refl };
          coded = λ e. absurd (apart refl e);
          worded =
              record {
                row = _;
                is = record { member = (29, refl); keyed = refl };
                allowed = (inl (1, refl), (inl (0, refl), tt));
                required = ((_, (1, refl), refl), ((_, (0, refl), refl), tt));
              };
        },
        tt,
      );
    }

kept : Keeps (forget tree)
kept =
    record {
      version = refl;
      dated = (leap_day, tt);
      filed = ((refl, all_only is_upper (bytes "IB")), tt);
      spoken = ((refl, all_only is_lower (bytes "en")), tt);
      total = decimal_number 3 (omega arith);
      sequences = (
        judged (decimal_number 1 (omega arith)) nucleotides_right,
        (
          judged (decimal_number 2 (omega arith)) acids_right,
          (skipped (decimal_number 3 (omega arith)) refl (refl, refl, refl, refl, refl), tt),
        ),
      );
    }

-- ---- its counts

abbrev name_of : Qualifier ℕ → List ℕ
name_of q = q.name.read

-- a CDS of this location, whose one qualifier is its translation, is judged
is_judged : {f : Feature ℕ} → f.location.read ≡ bytes "join(complement(7..12),complement(1..6))"
    → map name_of (qualifiers_of f) ≡ bytes "translation" ∷ [] → ¬ Unjudged f
is_judged {f} e l = go
  where
    named : (q : Qualifier ℕ) → q ∈ qualifiers_of f → Named "translation" q
    named q i = every (λ (w : List ℕ). w ≡ bytes "translation") (map name_of (qualifiers_of f)) (rw l (refl, tt)) (name_of q) (in_map name_of (qualifiers_of f) q i)

    go : ¬ Unjudged f
    go (excepted q i x h n) =
        every (λ (x : String). ¬ (bytes "translation" ≡ bytes x)) ("transl_except" ∷ "exception" ∷ "pseudo" ∷ "pseudogene" ∷ [])
        (apart refl, (apart refl, (apart refl, (apart refl, tt)))) x h (sym (named q i) ∙ n)
    go (other_code q i n h) = apart refl (sym (named q i) ∙ n)
    go (located t w u) = true≢false (sym u ∙ ap leaves_unjudged (locates_once t joined (subst (Locates t) e w) joins))

no_cds : {s : Sequence ℕ} {f : Feature ℕ} → same f.key.read (bytes "CDS") ≡ false → ¬ Coding s f
no_cds e c = apart e c.keyed

counts : Counts tree 3 1 3 1 0
counts =
    record {
      totals = refl;
      skips = lacks (apart refl) (lacks (apart refl) (has refl end));
      featured = refl;
      judges =
          lacks (λ c. no_cds refl c.0)
          (has (record { kind = dna; is = refl; nucleotide = refl; keyed = refl }, is_judged refl refl)
          (lacks (λ c. no_cds refl c.0) end));
      unjudges = lacks (λ c. no_cds refl c.0) (lacks (λ c. is_judged refl refl c.1) (lacks (λ c. no_cds refl c.0) end));
    }

-- this very text is accepted: three sequences, one of them skipped, three features, one judged CDS
pub accepts : CheckSays listing (Ok (record { total = 3; skipped = 1; features = 3; judged = 1; unjudged = 0 }))
accepts = (tree, accepted short laid (λ n p b. keeps_all kept ((bare_exactly ◌+◌ tree n).0 (p, b))), counts)
