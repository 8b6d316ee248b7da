-- What an object in memory holds: its contents, the numbers of the calls that are to fail, and two counts.
use Rattle.std.specs.Prelude.{ℕ, List, [], ◌∷◌, ◌++◌, Bool, true, ◌&&◌, if◌then◌else◌, map, is_none}
use Rattle.std.specs.Str.{is_utf8}
use Rattle.mj_io.specs.declared.memory_files.MemoryFile.{MemoryFile}
use Rattle.mj_fields.specs.Calls.{next, is_named}
use Rattle.mj_io.specs.Folder.{file_at}

-- each file's path with its bytes
abbrev pub told_files : List MemoryFile → List (List ℕ × List ℕ)
told_files files = map (λ file. (file.path, file.bytes)) files

-- each path is UTF-8, and none stands twice
abbrev pub are_files : List (List ℕ × List ℕ) → Bool
are_files [] = true
are_files (file ∷ files) = (is_utf8 file.0 && is_none (file_at file.0 files)) && are_files files

-- files in memory
pub record HeldFiles : Type 0 where
  pub files : List (List ℕ × List ℕ)
  pub failing : List ℕ
  pub calls : ℕ
  pub faults : ℕ

-- after one more call, which counts a fault exactly where it is to fail
abbrev pub called : HeldFiles → HeldFiles
called h = record { files = h.files; failing = h.failing; calls = next h.calls; faults = if is_named h.failing h.calls then next h.faults else h.faults }

-- bytes in memory
pub record HeldBytes : Type 0 where
  pub bytes : List ℕ
  pub failing : List ℕ
  pub calls : ℕ
  pub faults : ℕ

-- after a piece was put at their end, or after a call that failed
abbrev pub took : HeldBytes → List ℕ → HeldBytes
took h piece = record { bytes = h.bytes ++ piece; failing = h.failing; calls = next h.calls; faults = h.faults }

abbrev pub took_nothing : HeldBytes → HeldBytes
took_nothing h = record { bytes = h.bytes; failing = h.failing; calls = next h.calls; faults = next h.faults }

-- lines in memory
pub record HeldLines : Type 0 where
  pub lines : List (List ℕ)
  pub failing : List ℕ
  pub calls : ℕ
  pub faults : ℕ

-- after a line was put at their end, or after a call that failed
abbrev pub presented : HeldLines → List ℕ → HeldLines
presented h line = record { lines = h.lines ++ line ∷ []; failing = h.failing; calls = next h.calls; faults = h.faults }

abbrev pub presented_nothing : HeldLines → HeldLines
presented_nothing h = record { lines = h.lines; failing = h.failing; calls = next h.calls; faults = next h.faults }
