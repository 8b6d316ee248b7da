-- How a fault of a part becomes a fault of the run.
use Rattle.mj_io.specs.declared.files.FilesError.{FilesError}
use Rattle.mj_io.specs.declared.files.FilesError.TheVariants as files
use Rattle.mj_engine.specs.declared.run.RunFault.{RunFault}
use Rattle.mj_engine.specs.declared.run.RunFault.TheVariants as run

abbrev pub fault_of_files : FilesError → RunFault
fault_of_files files.Failed = run.Read
fault_of_files files.Memory = run.Memory
