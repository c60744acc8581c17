use Rattle.heap_entries.proofs.EntryLemmas.{text_one, blob_one, user_one, guid_one}
use Rattle.heap_entries.proofs.laws.entries_are_one.Goals as goal

pub returns-clause-text : goal.returns-clause-text
returns-clause-text c = text_one

pub returns-clause-blob : goal.returns-clause-blob
returns-clause-blob c = blob_one

pub returns-clause-user : goal.returns-clause-user
returns-clause-user c = user_one

pub returns-clause-guid : goal.returns-clause-guid
returns-clause-guid c = guid_one
