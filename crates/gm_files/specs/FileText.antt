-- Texts that are to be put into files.
use Rattle.std.specs.Prelude.{List, map}
use Rattle.gm_io.specs.FileList.{FileList}
use Rattle.gm_files.specs.declared.texts.FileText.{FileText}

-- their names and bytes, as a folder tells them
abbrev pub files_of : List FileText → FileList
files_of texts = map (λ text. (text.name, text.bytes)) texts
