-- 0 of a skipped sequence, else what its moltype names.
use mathlib.Core.Logic.{inl, inr}
use Rattle.index_walk.proofs.Numbers.{kind_zero, kind_named}
use Rattle.index_walk.proofs.kind_of_body.Goals as goal

pub returns-then-is_skipped : goal.returns-then-is_skipped
returns-then-is_skipped c = kind_zero c.is_skipped.ensures c.if-is_skipped.true

pub returns-in-Dna : goal.returns-in-Dna
returns-in-Dna c = kind_named c.is_skipped.ensures c.if-is_skipped.false c.bytes_of.ensures c.kind_of.ensures c.in-Dna.is

pub returns-in-Rna : goal.returns-in-Rna
returns-in-Rna c = kind_named c.is_skipped.ensures c.if-is_skipped.false c.bytes_of.ensures c.kind_of.ensures c.in-Rna.is

pub returns-in-Aa : goal.returns-in-Aa
returns-in-Aa c =
    elim c.in-Aa.is [
      | inl e ↦ kind_named c.is_skipped.ensures c.if-is_skipped.false c.bytes_of.ensures c.kind_of.ensures e
      | inr e ↦ kind_named c.is_skipped.ensures c.if-is_skipped.false c.bytes_of.ensures c.kind_of.ensures e
    ]
