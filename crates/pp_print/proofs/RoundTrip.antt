-- The canonical text of a manifest that some text spells is read back.
use Rattle.std.proofs.Common.{◌≡◌, ℕ, List, [], ◌++◌, sym, subst, ◌∙◌}
use Rattle.std.proofs.lemmas.List.{append_cancel_left}
use Rattle.std.specs.Prelude.{IsUtf8}
use Rattle.std.specs.List.{AllByRecursion}
use Rattle.pp_syntax.specs.declared.tree.Manifest.{Manifest}
use Rattle.pp_syntax.specs.Tokens.{Lexeme}
use Rattle.pp_syntax.specs.Spelling.{Spells}
use Rattle.pp_print.specs.declared.words.Word.{Word}
use Rattle.pp_print.specs.Statements.{manifest_words}
use Rattle.pp_print.specs.Canonical.{IsSpelled, canonical, ReadsBack}
use Rattle.pp_print.proofs.Standing.{all_sound, spelled_stand}
use Rattle.pp_print.proofs.Walks.{Held, Walks}
use Rattle.pp_print.proofs.ReadBack.{Apart, text_read}
use Rattle.pp_print.proofs.NoneLeftOut.{none_left_out}
use Rattle.pp_print.proofs.StatementWalks.{manifest_walks}
use Rattle.pp_print.proofs.Utf8.{canonical_utf8}
use Rattle.pp_print.proofs.ItemLaws.{manifest_reads}

-- a manifest that some text spells has a canonical text that is read as the same, places aside
pub read_back : Apart → ((text : List ℕ) (tokens : List Lexeme) → IsUtf8 text → Spells text tokens → AllByRecursion (λ t. IsUtf8 t.text) tokens) → (m : Manifest) → IsSpelled m → ReadsBack (canonical m) m
read_back apart utf8 m h =
    let walk = manifest_walks m h.tokens h.derived (all_sound h.text h.tokens h.spelled) in
    let read = text_read apart (manifest_words m) walk.0 walk.1 in
    let again = manifest_reads m h.tokens h.derived (spelled_stand h.text h.tokens h.spelled) read.0 read.2 in
    record {
      utf8 = canonical_utf8 utf8 m h.text h.tokens h.utf8 h.spelled h.derived;
      tokens = read.0;
      spelled = read.1;
      all_in = none_left_out read.0 walk.0 (subst (λ (ws : List Word). Walks [] Held ws [] walk.0) (sym read.2) walk.1);
      tree = again.0;
      derived = again.1;
      same = again.2;
    }

-- what is appended
pub appended : (old new : List ℕ) (m : Manifest) → new ≡ old ++ canonical m → ReadsBack (canonical m) m → (text : List ℕ) → new ≡ old ++ text → ReadsBack text m
appended old new m e h text f = subst (λ (t : List ℕ). ReadsBack t m) (append_cancel_left old (canonical m) text (sym e ∙ f)) h
