use Rattle.element_reader.proofs.FieldLemmas.{IsShortValue-read_version, IsShortValue-doc_type_read_version, IsShortValue-max_id_length, IsShortValue-max_size_length}
use Rattle.element_reader.proofs.ebml.value_refusal.Goals as goal

pub above-version-requires-clause-short : goal.above-version-requires-clause-short
above-version-requires-clause-short c = IsShortValue-read_version

pub above-doc_version-requires-clause-short : goal.above-doc_version-requires-clause-short
above-doc_version-requires-clause-short c = IsShortValue-doc_type_read_version

pub above-id_length-requires-clause-short : goal.above-id_length-requires-clause-short
above-id_length-requires-clause-short c = IsShortValue-max_id_length

pub above-size_length-requires-clause-short : goal.above-size_length-requires-clause-short
above-size_length-requires-clause-short c = IsShortValue-max_size_length
