use Rattle.gm_top.proofs.top.written.Goals as goal

pub returns-in-Files-clause-files : goal.returns-in-Files-clause-files
returns-in-Files-clause-files g c = rw c.in-Files.is c.written-in-Files.ensures.files

pub returns-in-Files-clause-part : goal.returns-in-Files-clause-part
returns-in-Files-clause-part g c = rw c.in-Files.is c.written-in-Files.ensures.part

pub returns-in-Files-clause-calls : goal.returns-in-Files-clause-calls
returns-in-Files-clause-calls g c = rw c.in-Files.is c.written-in-Files.ensures.calls

pub returns-in-Files-clause-part_calls : goal.returns-in-Files-clause-part_calls
returns-in-Files-clause-part_calls g c = rw c.in-Files.is c.written-in-Files.ensures.part_calls

pub returns-clause-files : goal.returns-clause-files
returns-clause-files g c = rw c.in-Sampled.is c.written-in-Sampled.ensures.files

pub returns-clause-part : goal.returns-clause-part
returns-clause-part g c = rw c.in-Sampled.is c.written-in-Sampled.ensures.part

pub returns-clause-calls : goal.returns-clause-calls
returns-clause-calls g c = rw c.in-Sampled.is c.written-in-Sampled.ensures.calls

pub returns-clause-part_calls : goal.returns-clause-part_calls
returns-clause-part_calls g c = rw c.in-Sampled.is c.written-in-Sampled.ensures.part_calls
