use Rattle.json_parts.proofs.StoredLaws.{put_among}
use Rattle.json_parts.proofs.writing.put_member.Goals as goal

pub returns : goal.returns
returns c = put_among c.args.members.now.entries c.insert.new.self.entries c.into_string-key.result c.args.json c.args.key c.in_ok-insert.ensures.entries c.into_string-key.ensures
