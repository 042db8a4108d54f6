-- A byte as itself, or an entity by its second byte, and where two begin alike by its third.
use native.Mathlib.Omega.{arith}
use Rattle.lent_room.proofs.Characters.{first_plain, first_short, first_lt, first_gt, first_quot, first_amp, first_apos}
use Rattle.lent_room.proofs.first.Goals as goal

pub returns-then-byte-ne38 : goal.returns-then-byte-ne38
returns-then-byte-ne38 c = first_plain c.args.text.now c.args.at c.if-byte-ne38.true

pub returns-then-text-at-lt4 : goal.returns-then-text-at-lt4
returns-then-text-at-lt4 c =
    first_short c.args.text.now c.args.at c.if-byte-ne38.false
    (omega (arith, c.if-text-at-lt4.true))

pub returns-then-text-at-eq108 : goal.returns-then-text-at-eq108
returns-then-text-at-eq108 c =
    let args = c.args in
    first_lt args.text.now args.at c.if-byte-ne38.false c.if-text-at-eq108.true

pub returns-then-text-at-eq103 : goal.returns-then-text-at-eq103
returns-then-text-at-eq103 c =
    let args = c.args in
    let if1 = c.if-byte-ne38 in
    first_gt args.text.now args.at if1.false c.if-text-at-eq108.false c.if-text-at-eq103.true

pub returns-then-text-at-eq113 : goal.returns-then-text-at-eq113
returns-then-text-at-eq113 c =
    let args = c.args in
    let if1 = c.if-byte-ne38 in
    first_quot args.text.now args.at if1.false c.if-text-at-eq108.false c.if-text-at-eq103.false
    c.if-text-at-eq113.true

pub returns-then-text-at-eq109 : goal.returns-then-text-at-eq109
returns-then-text-at-eq109 c =
    let args = c.args in
    let if1 = c.if-byte-ne38 in
    let if3 = c.if-text-at-eq108 in
    first_amp args.text.now args.at if1.false if3.false c.if-text-at-eq103.false
    c.if-text-at-eq113.false c.if-text-at-eq109.true

pub returns : goal.returns
returns c =
    let args = c.args in
    let if1 = c.if-byte-ne38 in
    let if3 = c.if-text-at-eq108 in
    first_apos args.text.now args.at if1.false if3.false c.if-text-at-eq103.false
    c.if-text-at-eq113.false c.if-text-at-eq109.false
