use Rattle.std.specs.Int.{w32, w64, to_le_bytes}
use Rattle.mj_mail.specs.Entry.{list_form}
use Rattle.mj_entry_write.proofs.Written.{both_written}
use Rattle.mj_entry_write.proofs.mail.put_name.Goals as goal

pub returns-clause-written : goal.returns-clause-written
returns-clause-written c =
    let name = c.args.name.now in
    both_written c.args.out.now c.put_long.new.out c.put_path.new.out (to_le_bytes w64 name.number) (list_form (to_le_bytes w32) name.path)
    c.in_ok-put_long.ensures.written c.put_path.result c.put_path.ensures.written
