-- The vocabulary of request 1 of document 02: "the feature keys and qualifiers of Annex I, sections 5 to 8 of source document 003", row by
-- row in its order. Print damage of 003 is read through; docs/DECISIONS.md lists it. scripts/vocabulary compares the rows with 003's text.
use Rattle.std.specs.Prelude.{ℕ, ◌+◌, Bool, true, false, ◌||◌, cond, List, [], ◌∷◌, ◌++◌, map, eqb}
use Prim.Native.Char.{code}
use Prim.Native.String.{String, [] as end, ◌∷◌ as ◌then◌}
use Rattle.paper.specs.Bytes.{bytes, same}
use Rattle.paper.specs.Values.{is_upper}

-- ---- a quoted text as words, which single blanks separate

-- one character in front of them
abbrev onto : ℕ → List (List ℕ) → List (List ℕ)
onto c [] = (c ∷ []) ∷ []
onto c (w ∷ l) = (c ∷ w) ∷ l

abbrev before : Bool → ℕ → List (List ℕ) → List (List ℕ)
before true c l = [] ∷ l
before false c l = onto c l

abbrev pub words : String → List (List ℕ)
words end = []
words (◌then◌ c s) = before (eqb (code c) (code " ")) (code c) (words s)

-- ---- "which key is known for nucleotides, which for AA, which qualifiers each allows and requires"

-- a key, the names of the qualifiers that it requires, and the names of those that it also allows
pub record Row : Type 0 where
  pub key : List ℕ
  pub required : List (List ℕ)
  pub optional : List (List ℕ)

abbrev pub row : String → String → String → Row
row key required optional = record { key = bytes key; required = words required; optional = words optional }

infixl 90 ◌also◌
-- a row that goes on
abbrev pub ◌also◌ : Row → String → Row
◌also◌ r optional = record { key = r.key; required = r.required; optional = r.optional ++ words optional }

-- section 5: the keys of nucleotides, 5.1 to 5.49
abbrev pub nucleotide_rows : List Row
nucleotide_rows =
    row "C_region" "" "allele gene gene_synonym map note product pseudo pseudogene standard_name"
    ∷ row "CDS" "" "allele circular_RNA codon_start EC_number exception function gene gene_synonym map note number operon product"
    also "protein_id pseudo pseudogene ribosomal_slippage standard_name translation transl_except trans_splicing transl_table"
    ∷ row "centromere" "" "note standard_name"
    ∷ row "D-loop" "" "allele gene gene_synonym map note"
    ∷ row "D_segment" "" "allele gene gene_synonym map note product pseudo pseudogene standard_name"
    ∷ row "exon" "" "allele EC_number function gene gene_synonym map note number product pseudo pseudogene standard_name"
    also "trans_splicing"
    ∷ row "gene" "" "allele function gene gene_synonym map note operon pseudo pseudogene phenotype standard_name trans_splicing"
    ∷ row "iDNA" "" "allele function gene gene_synonym map note number standard_name"
    ∷ row "intron" "" "allele function gene gene_synonym map note number pseudo pseudogene standard_name trans_splicing"
    ∷ row "J_segment" "" "allele gene gene_synonym map note product pseudo pseudogene standard_name"
    ∷ row "mat_peptide" "" "allele EC_number function gene gene_synonym map note product pseudo pseudogene standard_name"
    ∷ row "misc_binding" "bound_moiety" "allele function gene gene_synonym map note"
    ∷ row "misc_difference" "" "allele clone compare gene gene_synonym map note phenotype replace standard_name"
    ∷ row "misc_feature" "" "allele function gene gene_synonym map note number phenotype product pseudo pseudogene standard_name"
    ∷ row "misc_recomb" "" "allele gene gene_synonym map note recombination_class standard_name"
    ∷ row "misc_RNA" "" "allele function gene gene_synonym map note operon product pseudo pseudogene standard_name trans_splicing"
    ∷ row "misc_structure" "" "allele function gene gene_synonym map note standard_name"
    ∷ row "mobile_element" "mobile_element_type" "allele function gene gene_synonym map note rpt_family rpt_type standard_name"
    ∷ row "modified_base" "mod_base" "allele frequency gene gene_synonym map note"
    ∷ row "mRNA" "" "allele circular_RNA function gene gene_synonym map note operon product pseudo pseudogene standard_name"
    also "trans_splicing"
    ∷ row "ncRNA" "ncRNA_class" "allele function gene gene_synonym map note operon product pseudo pseudogene standard_name"
    also "trans_splicing"
    ∷ row "N_region" "" "allele gene gene_synonym map note product pseudo pseudogene standard_name"
    ∷ row "operon" "operon" "allele function map note phenotype pseudo pseudogene standard_name"
    ∷ row "oriT" "" "allele bound_moiety direction gene gene_synonym map note rpt_family rpt_type rpt_unit_range rpt_unit_seq"
    also "standard_name"
    ∷ row "polyA_site" "" "allele gene gene_synonym map note"
    ∷ row "precursor_RNA" "" "allele function gene gene_synonym map note operon product standard_name trans_splicing"
    ∷ row "prim_transcript" "" "allele function gene gene_synonym map note operon standard_name"
    ∷ row "primer_bind" "" "allele gene gene_synonym map note standard_name"
    ∷ row "propeptide" "" "allele function gene gene_synonym map note product pseudo pseudogene standard_name"
    ∷ row "protein_bind" "bound_moiety" "allele function gene gene_synonym map note operon standard_name"
    ∷ row "regulatory" "regulatory_class" "allele bound_moiety function gene gene_synonym map note operon phenotype pseudo"
    also "pseudogene standard_name"
    ∷ row "repeat_region" "" "allele function gene gene_synonym map note rpt_family rpt_type rpt_unit_range rpt_unit_seq satellite"
    also "standard_name"
    ∷ row "rep_origin" "" "allele direction function gene gene_synonym map note standard_name"
    ∷ row "rRNA" "" "allele function gene gene_synonym map note operon product pseudo pseudogene standard_name"
    ∷ row "S_region" "" "allele gene gene_synonym map note product pseudo pseudogene standard_name"
    ∷ row "sig_peptide" "" "allele function gene gene_synonym map note product pseudo pseudogene standard_name"
    ∷ row "source" "organism mol_type" "cell_line cell_type chromosome clone clone_lib collected_by collection_date cultivar"
    also "dev_stage ecotype environmental_sample germline haplogroup haplotype host identified_by isolate isolation_source"
    also "lab_host lat_lon macronuclear map mating_type note organelle PCR_primers plasmid pop_variant proviral rearranged"
    also "segment serotype serovar sex strain sub_clone sub_species sub_strain tissue_lib tissue_type variety"
    ∷ row "stem_loop" "" "allele function gene gene_synonym map note operon standard_name"
    ∷ row "STS" "" "allele gene gene_synonym map note standard_name"
    ∷ row "telomere" "" "note rpt_type rpt_unit_range rpt_unit_seq standard_name"
    ∷ row "tmRNA" "" "allele function gene gene_synonym map note product pseudo pseudogene standard_name tag_peptide"
    ∷ row "transit_peptide" "" "allele function gene gene_synonym map note product pseudo pseudogene standard_name"
    ∷ row "tRNA" "" "allele circular_RNA anticodon function gene gene_synonym map note operon product pseudo pseudogene"
    also "standard_name trans_splicing"
    ∷ row "unsure" "" "allele compare gene gene_synonym map note replace"
    ∷ row "V_region" "" "allele gene gene_synonym map note product pseudo pseudogene standard_name"
    ∷ row "V_segment" "" "allele gene gene_synonym map note product pseudo pseudogene standard_name"
    ∷ row "variation" "" "allele compare frequency gene gene_synonym map note phenotype product replace standard_name"
    ∷ row "3'UTR" "" "allele function gene gene_synonym map note standard_name trans_splicing"
    ∷ row "5'UTR" "" "allele function gene gene_synonym map note standard_name trans_splicing"
    ∷ []

-- section 6: the qualifiers of nucleotides, 6.1 to 6.81
abbrev pub nucleotide_names : List (List ℕ)
nucleotide_names =
    words "allele anticodon bound_moiety cell_line cell_type chromosome circular_RNA clone clone_lib codon_start collected_by"
    ++ words "collection_date compare cultivar dev_stage direction EC_number ecotype environmental_sample exception frequency"
    ++ words "function gene gene_synonym germline haplogroup haplotype host identified_by isolate isolation_source lab_host lat_lon"
    ++ words "macronuclear map mating_type mobile_element_type mod_base mol_type ncRNA_class note number operon organelle organism"
    ++ words "PCR_primers phenotype plasmid pop_variant product protein_id proviral pseudo pseudogene rearranged recombination_class"
    ++ words "regulatory_class replace ribosomal_slippage rpt_family rpt_type rpt_unit_range rpt_unit_seq satellite segment serotype"
    ++ words "serovar sex standard_name strain sub_clone sub_species sub_strain tag_peptide tissue_lib tissue_type transl_except"
    ++ words "transl_table trans_splicing translation variety"

-- section 7: the keys of AA, 7.1 to 7.39
abbrev pub amino_rows : List Row
amino_rows =
    row "ACT_SITE" "" "note"
    ∷ row "BINDING" "note" ""
    ∷ row "CA_BIND" "" "note"
    ∷ row "CARBOHYD" "note" ""
    ∷ row "CHAIN" "" "note"
    ∷ row "COILED" "" "note"
    ∷ row "COMPBIAS" "" "note"
    ∷ row "CONFLICT" "" "note"
    ∷ row "CROSSLNK" "note" ""
    ∷ row "DISULFID" "note" ""
    ∷ row "DNA_BIND" "note" ""
    ∷ row "DOMAIN" "note" ""
    ∷ row "HELIX" "" "note"
    ∷ row "INIT_MET" "" "note"
    ∷ row "INTRAMEM" "" "note"
    ∷ row "LIPID" "note" ""
    ∷ row "METAL" "note" ""
    ∷ row "MOD_RES" "note" ""
    ∷ row "MOTIF" "" "note"
    ∷ row "MUTAGEN" "" "note"
    ∷ row "NON_STD" "" "note"
    ∷ row "NON_TER" "" "note"
    ∷ row "NP_BIND" "note" ""
    ∷ row "PEPTIDE" "" "note"
    ∷ row "PROPEP" "" "note"
    ∷ row "REGION" "" "note"
    ∷ row "REPEAT" "" "note"
    ∷ row "SIGNAL" "" "note"
    ∷ row "SITE" "note" ""
    ∷ row "source" "mol_type organism" "note"
    ∷ row "STRAND" "" "note"
    ∷ row "TOPO_DOM" "" "note"
    ∷ row "TRANSMEM" "" "note"
    ∷ row "TRANSIT" "" "note"
    ∷ row "TURN" "" "note"
    ∷ row "UNSURE" "" "note"
    ∷ row "VARIANT" "" "note"
    ∷ row "VAR_SEQ" "" "note"
    ∷ row "ZN_FING" "note" ""
    ∷ []

-- section 8: the qualifiers of AA, 8.1 to 8.3
abbrev pub amino_names : List (List ℕ)
amino_names = words "mol_type note organism"

-- ---- "SOURCE, ORGANISM, MOL_TYPE and the upper-case AA qualifier NOTE count as their lower-case names for this check."

abbrev pub older : List (List ℕ)
older = words "SOURCE ORGANISM MOL_TYPE NOTE"

-- a text is one of these
abbrev pub is_one_of : List (List ℕ) → List ℕ → Bool
is_one_of [] v = false
is_one_of (w ∷ l) v = same v w || is_one_of l v

abbrev pub lower : ℕ → ℕ
lower b = cond (is_upper b) (b + 32) b

-- what a key or a name counts as; `upper`: of a kind that has its names in upper case
abbrev pub counted : (upper : Bool) → List ℕ → List ℕ
counted true v = cond (is_one_of older v) (map lower v) v
counted false v = v
