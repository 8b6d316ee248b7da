use Rattle.std.proofs.Common.{◌≡◌, true}
use Rattle.std.proofs.lemmas.Result.{IfOk-weaker}
use Rattle.std.proofs.lemmas.Str.{is_utf8-from_IsUtf8}
use Rattle.std.specs.Str.{is_utf8}
use Rattle.mj_io.proofs.folder_files.to_bytes.Goals as goal

pub returns : goal.returns
returns c =
    let text : is_utf8 c.as_bytes.result.now ≡ true = rw c.as_bytes.ensures.value (is_utf8-from_IsUtf8 _ c.utf8.name) in
    IfOk-weaker c.from_slice.result (λ b. b ≡ c.as_bytes.result.now) (λ b. is_utf8 b ≡ true) (λ b e. rw e text) c.from_slice.ensures
