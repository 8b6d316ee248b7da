-- A group of short payloads with one more.
use Rattle.std.specs.Prelude.{ℕ, ◌≤◌, List, [], ◌∷◌, ◌++◌, length, Vec}
use Rattle.std.specs.declared.alloc.Global.{Global}
use Rattle.mj_log.specs.FrameLaws.{AllShort}
use Rattle.mj_log.specs.Log.{texts}

pub short_pushed : (group : List (Vec ℕ Global)) (payload : Vec ℕ Global) → AllShort (texts group) → length payload.items ≤ 134217728 → AllShort (texts (group ++ payload ∷ []))
short_pushed [] payload short is = (is, tt)
short_pushed (one ∷ group) payload short is = (short.0, short_pushed group payload short.1 is)
