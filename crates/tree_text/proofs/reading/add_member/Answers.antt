use Rattle.std.proofs.Common.{◌≡◌, true}
use Rattle.fs_lang.specs.Meaning.{entry_of}
use Rattle.tree_text.proofs.StoredLaws.{entry_is}
use Rattle.tree_text.proofs.reading.add_member.Goals as goal

pub returns-clause-ok : goal.returns-clause-ok
returns-clause-ok c = let place : c.in_ok-fits.fits ≡ true = cc in (
  c.in_ok-path.path,
  entry_of c.in_ok-entry.entry,
  record {
    is_key = c.in_ok-path.ensures.found;
    value = entry_is _ _ c.in_ok-entry.ensures;
    free = (c.in_ok-fits.ensures.0 place).0;
    above = (c.in_ok-fits.ensures.0 place).1;
  },
  c.in_ok-add.ensures.ok,
)
