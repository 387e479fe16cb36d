use Rattle.std.proofs.Common.{ap, ◌∙◌, Some}
use Rattle.std.specs.Option.{option_map}
use Rattle.outside.specs.declared.files.Entry.{Entry}
use Rattle.outside.proofs.FoundFiles.{find_bytes_of}
use Rattle.outside.proofs.memory_files.find_bytes.Goals as goal

pub returns-in-Some : goal.returns-in-Some
returns-in-Some c = ap Some c.as_slice.ensures.value ∙ ap (option_map (λ (e : Entry). e.bytes.items)) c.in-Some.ensures ∙ find_bytes_of c.args.entries.now c.args.path.now

pub returns-in-None : goal.returns-in-None
returns-in-None c = ap (option_map (λ (e : Entry). e.bytes.items)) c.in-None.ensures ∙ find_bytes_of c.args.entries.now c.args.path.now
