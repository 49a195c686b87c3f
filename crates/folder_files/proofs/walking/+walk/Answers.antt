use Rattle.std.proofs.Common.{◌∙◌, sym, subst, arith, List}
use Rattle.sj_outside.specs.declared.answers.Entry.{Entry}
use Rattle.sj_outside.specs.Contents.{entry_name, are_names}
use Rattle.sj_outside.specs.Reading.{Lists}
use Rattle.std.specs.Prelude.{map, IsTrue}
use Rattle.folder_files.proofs.Walked.{none_missing, folder_is_there, one_more, all_gathered, folder_gathered, inner_gathered}
use Rattle.folder_files.proofs.walking.+walk.Goals as goal

pub gather-returns-in_err-gather_entry-clause-missing :
    goal.gather-returns-in_err-gather_entry-clause-missing
gather-returns-in_err-gather_entry-clause-missing g t c contents tells some =
    let same = c.deref-entry-items.ensures.value in
    let listed = c.in_ok-entries.ensures.same ∙ tells in
    let lists = subst (λ (es : List Entry). Lists (g.F.Folders.holds c.args.folders.now) c.args.here.now.path.now es) (sym same) c.in_ok-entries.ensures.entries in
    let names = subst (λ (es : List Entry). IsTrue (are_names (map entry_name es))) (sym same) c.in_ok-entries.ensures.names in
    c.in_err-gather_entry.ensures.missing contents (c.loop-entry.invariant.same ∙ listed) (folder_is_there _ contents c.args.here.now.path.now c.deref-entry-items.result.now c.loop-entry.entry-index c.entry-item.result tells lists names c.loop-entry-test.true c.entry-item.is)
    ∙ c.loop-entry.invariant.missing contents listed
    ∙ none_missing _ _ _ _ c.in_ok-entries.ensures.missing

pub gather-loop-entry-preserved : goal.gather-loop-entry-preserved
gather-loop-entry-preserved g t c =
    let same = c.deref-entry-items.ensures.value in
    record {
      same = c.in_ok-gather_entry.ensures.same ∙ c.loop-entry.invariant.same;
      told = λ contents tells last all. c.loop-entry.invariant.told contents tells last (one_more contents c.args.here.now.path.now c.args.here.now.prefix.now c.args.here.now.left c.deref-entry-items.result.now c.loop-entry.entry-index c.entry-item.result _ _ last c.loop-entry-test.true c.entry-item.is (c.in_ok-gather_entry.ensures.told contents (c.loop-entry.invariant.same ∙ tells)) all);
      faults = omega (arith, c.in_ok-gather_entry.ensures.cause.never_falls, c.loop-entry.invariant.faults);
      missing = λ contents tells.
          let old = sym c.in_ok-entries.ensures.same ∙ tells in
          let lists = subst (λ (es : List Entry). Lists (g.F.Folders.holds c.args.folders.now) c.args.here.now.path.now es) (sym same) c.in_ok-entries.ensures.entries in
          let names = subst (λ (es : List Entry). IsTrue (are_names (map entry_name es))) (sym same) c.in_ok-entries.ensures.names in
          c.in_ok-gather_entry.ensures.missing contents (c.loop-entry.invariant.same ∙ tells) (folder_is_there _ contents c.args.here.now.path.now c.deref-entry-items.result.now c.loop-entry.entry-index c.entry-item.result old lists names c.loop-entry-test.true c.entry-item.is)
          ∙ c.loop-entry.invariant.missing contents tells;
    }

pub gather-returns-clause-told : goal.gather-returns-clause-told
gather-returns-clause-told g t c contents tells =
    let same = c.deref-entry-items.ensures.value in
    let lists = subst (λ (es : List Entry). Lists (g.F.Folders.holds c.args.folders.now) c.args.here.now.path.now es) (sym same) c.in_ok-entries.ensures.entries in
    let names = subst (λ (es : List Entry). IsTrue (are_names (map entry_name es))) (sym same) c.in_ok-entries.ensures.names in
    all_gathered _ contents c.args.here.now.path.now c.args.here.now.prefix.now c.args.here.now.left c.deref-entry-items.result.now c.loop-entry.entry-index _ _ tells lists names (omega (arith, c.loop-entry-test.false)) (c.loop-entry.invariant.told contents (c.in_ok-entries.ensures.same ∙ tells) c.loop-entry.paths.items)

pub gather_entry-returns-then-entry-clause-told : goal.gather_entry-returns-then-entry-clause-told
gather_entry-returns-then-entry-clause-told g t c contents tells = folder_gathered contents c.args.here.now.path.now c.args.here.now.prefix.now c.as_str.result.now c.args.here.now.left c.args.entry.now _ _ c.gather_folder.result c.if-entry.true c.as_str.ensures (c.gather_folder.ensures.told contents tells)

pub gather_folder-returns-clause-told : goal.gather_folder-returns-clause-told
gather_folder-returns-clause-told g t c contents tells = inner_gathered contents c.args.here.now.path.now c.args.here.now.prefix.now c.args.name.now c.as_str.result.now c.as_str-2.result.now c.args.here.now.left _ _ c.gather.result c.if-here-eq0.false (c.as_str.ensures.value ∙ c.in_ok-path.ensures) (c.as_str-2.ensures.value ∙ c.in_ok-prefix.ensures) (c.gather.ensures.told contents tells)
