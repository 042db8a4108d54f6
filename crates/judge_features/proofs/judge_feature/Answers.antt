-- `judge_features::judge_feature` meets its contract: as a source, a coding region, or neither.
use Rattle.judge_features.proofs.Roles.{as_source, as_coding, as_plain}
use Rattle.judge_features.proofs.judge_feature.Goals as goal

pub returns-then-is_source : goal.returns-then-is_source
returns-then-is_source c =
    let feature = c.feature-feature in
    let judge-location = c.judge_location-verdict in
    let bytes_of = c.bytes_of-name in
    let row_of = c.row_of-row in
    let is-acid = c.is_acid-upper in
    let note = c.note-noted in
    let judge-place = c.judge_place in
    let judge-words = c.judge_words in
    as_source judge-location.result judge-place.result judge-words.result c.earlier-place.result
    feature.ensures judge-location.ensures bytes_of.ensures row_of.ensures is-acid.ensures note.ensures
    judge-place.ensures judge-words.ensures c.earlier-place.ensures
    c.feature_end-next.ensures c.is_source.ensures c.if-is_source.true
    c.judge_source.ensures

pub judge_coding-fault-requires : goal.judge_coding-fault-requires
judge_coding-fault-requires c =
    c.args.tables.now.code_table

pub returns-then-is_coding : goal.returns-then-is_coding
returns-then-is_coding c =
    let feature = c.feature-feature in
    let judge-location = c.judge_location-verdict in
    let bytes_of = c.bytes_of-name in
    let row_of = c.row_of-row in
    let is-acid = c.is_acid-upper in
    let note = c.note-noted in
    let judge-place = c.judge_place in
    let judge-words = c.judge_words in
    let earlier = c.earlier-place in
    let feature-end = c.feature_end-next in
    let is-source = c.is_source in
    let if1 = c.if-is_source in
    as_coding judge-location.result judge-place.result judge-words.result earlier.result feature.ensures
    judge-location.ensures bytes_of.ensures row_of.ensures is-acid.ensures note.ensures judge-place.ensures
    judge-words.ensures earlier.ensures feature-end.ensures is-source.ensures if1.false
    c.is_coding.ensures c.earlier.result c.if-is_coding.true
    c.judge_coding-fault.ensures c.earlier.ensures c.role_of.ensures

pub returns : goal.returns
returns c =
    let feature = c.feature-feature in
    let judge-location = c.judge_location-verdict in
    let bytes_of = c.bytes_of-name in
    let row_of = c.row_of-row in
    let is-acid = c.is_acid-upper in
    let note = c.note-noted in
    let judge-place = c.judge_place in
    let judge-words = c.judge_words in
    let earlier = c.earlier-place in
    as_plain judge-location.result judge-place.result judge-words.result earlier.result feature.ensures
    judge-location.ensures bytes_of.ensures row_of.ensures is-acid.ensures note.ensures judge-place.ensures
    judge-words.ensures earlier.ensures c.feature_end-next.ensures
    c.is_source.ensures c.if-is_source.false c.is_coding.ensures c.if-is_coding.false
