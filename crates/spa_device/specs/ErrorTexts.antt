-- Why an input isn't read whole, in words.
use Rattle.std.specs.Prelude.{ℕ, List, codes}
use Rattle.spa_device.specs.declared.input.ReadError.{ReadError}
use Rattle.spa_device.specs.declared.input.ReadError.TheVariants.{OutOfMemory, Failed}

abbrev pub error_text : ReadError → List ℕ
error_text OutOfMemory = codes "out of memory"
error_text Failed = codes "read failed"
