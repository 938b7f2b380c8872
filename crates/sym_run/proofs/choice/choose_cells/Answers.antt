use Rattle.std.proofs.Common.{cond, refl, sym, ◌∙◌}
use Rattle.fs_interpreter.proofs.Frames.{grows_on}
use Rattle.sym_run.proofs.BitLaws.{bits_later, codes_later, chosen_later, chosen_codes_later, chosen_state, own_later, own_codes_later}
use Rattle.sym_run.proofs.choice.choose_cells.Goals as goal

pub choose_bits-requires-2-clause-a : goal.choose_bits-requires-2-clause-a
choose_bits-requires-2-clause-a g c = own_later _ _ c.args.a.now.folder c.choose_bits.ensures.grows c.requires.a.folder

pub choose_bits-requires-2-clause-b : goal.choose_bits-requires-2-clause-b
choose_bits-requires-2-clause-b g c = own_later _ _ c.args.b.now.folder c.choose_bits.ensures.grows c.requires.b.folder

pub choose_bits-requires-3-clause-a : goal.choose_bits-requires-3-clause-a
choose_bits-requires-3-clause-a g c = own_later _ _ c.args.a.now.link (grows_on _ _ _ c.choose_bits.ensures.grows c.choose_bits-2.ensures.grows) c.requires.a.link

pub choose_bits-requires-3-clause-b : goal.choose_bits-requires-3-clause-b
choose_bits-requires-3-clause-b g c = own_later _ _ c.args.b.now.link (grows_on _ _ _ c.choose_bits.ensures.grows c.choose_bits-2.ensures.grows) c.requires.b.link

pub choose_codes-requires-clause-a : goal.choose_codes-requires-clause-a
choose_codes-requires-clause-a g c = own_codes_later _ _ c.args.a.now.content (grows_on _ _ _ (grows_on _ _ _ c.choose_bits.ensures.grows c.choose_bits-2.ensures.grows) c.choose_bits-3.ensures.grows) c.requires.a.content

pub choose_codes-requires-clause-b : goal.choose_codes-requires-clause-b
choose_codes-requires-clause-b g c = own_codes_later _ _ c.args.b.now.content (grows_on _ _ _ (grows_on _ _ _ c.choose_bits.ensures.grows c.choose_bits-2.ensures.grows) c.choose_bits-3.ensures.grows) c.requires.b.content

pub returns-clause-told : goal.returns-clause-told
returns-clause-told g c =
    let m0 = g.B.Bits.meanings c.args.bits.now in
    let m1 = g.B.Bits.meanings c.choose_bits.new.bits in
    let m2 = g.B.Bits.meanings c.choose_bits-2.new.bits in
    let m3 = g.B.Bits.meanings c.choose_bits-3.new.bits in
    let m4 = g.B.Bits.meanings c.choose_codes.new.bits in
    let m5 = g.B.Bits.meanings c.mux.new.self in
    let w = c.args.when.now in
    let a = c.args.a.now in
    let b = c.args.b.now in
    let own = c.requires.when in
    let g01 = c.choose_bits.ensures.grows in
    let g02 = grows_on m0 m1 m2 g01 c.choose_bits-2.ensures.grows in
    let g03 = grows_on m0 m2 m3 g02 c.choose_bits-3.ensures.grows in
    let g04 = grows_on m0 m3 m4 g03 c.choose_codes.ensures.grows in
    let g45 = c.mux.ensures.grows in
    let g35 = grows_on m3 m4 m5 c.choose_codes.ensures.grows g45 in
    let g25 = grows_on m2 m3 m5 c.choose_bits-3.ensures.grows g35 in
    let g15 = grows_on m1 m2 m5 c.choose_bits-2.ensures.grows g25 in
    chosen_state m0 m5 w a b _
    (bits_later m1 m5 _ _ c.in_ok-present.present g15 c.in_ok-present.ensures.chosen (λ v i. refl))
    (bits_later m2 m5 _ _ c.in_ok-folder.folder g25 c.in_ok-folder.ensures.chosen (chosen_later m0 m1 w a.folder b.folder g01 own c.requires.a.folder c.requires.b.folder))
    (bits_later m3 m5 _ _ c.in_ok-link.link g35 c.in_ok-link.ensures.chosen (chosen_later m0 m2 w a.link b.link g02 own c.requires.a.link c.requires.b.link))
    (codes_later m4 m5 _ _ c.in_ok-content.content g45 c.in_ok-content.ensures.chosen (chosen_codes_later m0 m3 w a.content b.content g03 own c.requires.a.content c.requires.b.content))
    (λ v. c.in_ok-error.ensures.gives.means v ∙ (λ t. cond (g04.bit w own v t) (g04.bit a.error c.requires.a.error v t) (g04.bit b.error c.requires.b.error v t)))

pub returns-clause-cells : goal.returns-clause-cells
returns-clause-cells g c =
    let m1 = g.B.Bits.meanings c.choose_bits.new.bits in
    let m2 = g.B.Bits.meanings c.choose_bits-2.new.bits in
    let m3 = g.B.Bits.meanings c.choose_bits-3.new.bits in
    let m4 = g.B.Bits.meanings c.choose_codes.new.bits in
    let m5 = g.B.Bits.meanings c.mux.new.self in
    let g45 = c.mux.ensures.grows in
    let g35 = grows_on m3 m4 m5 c.choose_codes.ensures.grows g45 in
    let g25 = grows_on m2 m3 m5 c.choose_bits-3.ensures.grows g35 in
    let g15 = grows_on m1 m2 m5 c.choose_bits-2.ensures.grows g25 in
    record {
      folders = c.in_ok-folder.ensures.long ∙ c.requires.a.folders ∙ sym c.in_ok-present.ensures.long;
      links = c.in_ok-link.ensures.long ∙ c.requires.a.links ∙ sym c.in_ok-present.ensures.long;
      contents = c.in_ok-content.ensures.long ∙ c.requires.a.contents ∙ sym c.in_ok-present.ensures.long;
      present = own_later m1 m5 c.in_ok-present.present g15 c.in_ok-present.ensures.chosen.owned;
      folder = own_later m2 m5 c.in_ok-folder.folder g25 c.in_ok-folder.ensures.chosen.owned;
      link = own_later m3 m5 c.in_ok-link.link g35 c.in_ok-link.ensures.chosen.owned;
      content = own_codes_later m4 m5 c.in_ok-content.content g45 c.in_ok-content.ensures.chosen.owned;
      error = c.in_ok-error.ensures.gives.owned;
    }

pub returns-clause-grows : goal.returns-clause-grows
returns-clause-grows g c =
    let m0 = g.B.Bits.meanings c.args.bits.now in
    let m1 = g.B.Bits.meanings c.choose_bits.new.bits in
    let m2 = g.B.Bits.meanings c.choose_bits-2.new.bits in
    let m3 = g.B.Bits.meanings c.choose_bits-3.new.bits in
    let m4 = g.B.Bits.meanings c.choose_codes.new.bits in
    let m5 = g.B.Bits.meanings c.mux.new.self in
    grows_on m0 m4 m5 (grows_on m0 m3 m4 (grows_on m0 m2 m3 (grows_on m0 m1 m2 c.choose_bits.ensures.grows c.choose_bits-2.ensures.grows) c.choose_bits-3.ensures.grows) c.choose_codes.ensures.grows) c.mux.ensures.grows
