use Rattle.std.proofs.Common.{◌≡◌, ◌++◌, ◌+◌, ◌*◌, drop}
use Rattle.fs_lang.specs.Meaning.{program_of, programs_in}
use Rattle.fs_lang.specs.Sizes.{program_size, programs_size}
use Rattle.tree_text.specs.ProgramText.{more_text}
use Rattle.tree_text.proofs.printing.+program_words.Given as goal

abbrev pub decreases-put_program : goal.decreases-put_program
decreases-put_program l = 4 * program_size (program_of l.program.now)

abbrev pub decreases-put_choice : goal.decreases-put_choice
decreases-put_choice l = 4 * program_size (program_of l.e.now) + 4 * program_size (program_of l.f.now) + 1

abbrev pub decreases-put_list : goal.decreases-put_list
decreases-put_list l = 4 * programs_size (programs_in l.programs.now) + 2

abbrev pub decreases-put_steps : goal.decreases-put_steps
decreases-put_steps l = 4 * programs_size (programs_in l.programs.now) + 1

abbrev pub decreases-put_more : goal.decreases-put_more
decreases-put_more l = 4 * programs_size (programs_in l.programs.now)

-- what is printed, with what is still to be printed
abbrev pub invariant-put_more-loop-program : goal.invariant-put_more-loop-program
invariant-put_more-loop-program l = l.into ++ more_text (programs_in (drop l.program-index l.programs)) ≡ l.initial.into ++ more_text (programs_in l.programs)
