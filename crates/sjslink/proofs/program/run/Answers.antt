use Rattle.std.proofs.Common.{◌≡◌, map, Some, None, ap, sym, ◌∙◌}
use Rattle.std.specs.Prelude.{string_bytes}
use Rattle.std.proofs.Common.{arith}
use Rattle.std.proofs.lemmas.Grind.{common_steps}
use Rattle.sj_outside.proofs.Laws.{Appends-none}
use Rattle.sj_words.specs.Earlier.{split_command as command}
use Rattle.sjslink.specs.Headline.{none_put}
use Rattle.sjslink.specs.Input.{IsLinkCommand}
use Rattle.sjslink.specs.Output.{no_command, out_of_memory, usage_line}
use Rattle.sjslink.specs.declared.answers.Status.TheVariants.{Usage}
use Rattle.sjslink.proofs.Ends.{line_ends_run, usage_is_no_edit, line_alone, usage_is_no_bad_line}
use Rattle.sjslink.proofs.Words.{none_generates, few_folders}
use Rattle.std.proofs.lemmas.List.{length-map}
use Rattle.sjslink.proofs.program.run.Goals as goal

pub returns-in-Ok-Some-Link-clause-front : goal.returns-in-Ok-Some-Link-clause-front
returns-in-Ok-Some-Link-clause-front g c contents tells =
    let is : IsLinkCommand (map string_bytes c.args.words.items) c.in-Ok-Some-Link.link = ap (λ ws. command (map string_bytes ws)) (sym c.as_slice.ensures.value) ∙ sym c.in-Ok-Some-Link.ensures ∙ c.in-Ok-Some-Link.field-0-is ∙ ap Some c.in-Ok-Some-Link.field-0-0-is in
    (c.run_link.ensures.ends (map string_bytes c.args.words.items) contents is tells).front

pub returns-in-Ok-Some-Link-clause-shown : goal.returns-in-Ok-Some-Link-clause-shown
returns-in-Ok-Some-Link-clause-shown g c contents tells =
    let is : IsLinkCommand (map string_bytes c.args.words.items) c.in-Ok-Some-Link.link = ap (λ ws. command (map string_bytes ws)) (sym c.as_slice.ensures.value) ∙ sym c.in-Ok-Some-Link.ensures ∙ c.in-Ok-Some-Link.field-0-is ∙ ap Some c.in-Ok-Some-Link.field-0-0-is in
    (c.run_link.ensures.ends (map string_bytes c.args.words.items) contents is tells).shown

pub returns-in-Ok-clause-whole : goal.returns-in-Ok-clause-whole
returns-in-Ok-clause-whole g c contents tells =
    let none : command (map string_bytes c.args.words.items) ≡ None = grind (arith, common_steps, none_generates) in
    (line_ends_run (map string_bytes c.args.words.items) contents _ _ _ Usage usage_line _ c.finish.result (no_command none) (λ P p. p) usage_is_no_edit c.finish.ensures.ends).whole

pub returns-in-Ok-clause-front : goal.returns-in-Ok-clause-front
returns-in-Ok-clause-front g c contents tells =
    let none : command (map string_bytes c.args.words.items) ≡ None = grind (arith, common_steps, none_generates) in
    (line_ends_run (map string_bytes c.args.words.items) contents _ _ _ Usage usage_line _ c.finish.result (no_command none) (λ P p. p) usage_is_no_edit c.finish.ensures.ends).front

pub run_link-requires : goal.run_link-requires
run_link-requires g c =
    let is : IsLinkCommand (map string_bytes c.args.words.items) c.in-Ok-Some-Link.link = ap (λ ws. command (map string_bytes ws)) (sym c.as_slice.ensures.value) ∙ sym c.in-Ok-Some-Link.ensures ∙ c.in-Ok-Some-Link.field-0-is ∙ ap Some c.in-Ok-Some-Link.field-0-0-is in
    let few = few_folders (map string_bytes c.args.words.items) c.in-Ok-Some-Link.link is in
    omega (arith, few, length-map c.args.words.items string_bytes, c.requires)

pub returns-in-Ok-Some-Link-clause-agrees : goal.returns-in-Ok-Some-Link-clause-agrees
returns-in-Ok-Some-Link-clause-agrees g c contents tells ended =
    let is : IsLinkCommand (map string_bytes c.args.words.items) c.in-Ok-Some-Link.link = ap (λ ws. command (map string_bytes ws)) (sym c.as_slice.ensures.value) ∙ sym c.in-Ok-Some-Link.ensures ∙ c.in-Ok-Some-Link.field-0-is ∙ ap Some c.in-Ok-Some-Link.field-0-0-is in
    (c.run_link.ensures.ends (map string_bytes c.args.words.items) contents is tells).agrees ended

pub returns-in-Ok-Some-Link-clause-missing : goal.returns-in-Ok-Some-Link-clause-missing
returns-in-Ok-Some-Link-clause-missing g c contents tells held =
    let is : IsLinkCommand (map string_bytes c.args.words.items) c.in-Ok-Some-Link.link = ap (λ ws. command (map string_bytes ws)) (sym c.as_slice.ensures.value) ∙ sym c.in-Ok-Some-Link.ensures ∙ c.in-Ok-Some-Link.field-0-is ∙ ap Some c.in-Ok-Some-Link.field-0-0-is in
    c.run_link.ensures.missing contents tells (held c.in-Ok-Some-Link.link is)

pub returns-in-Ok-clause-usage : goal.returns-in-Ok-clause-usage
returns-in-Ok-clause-usage g c ended = grind (arith, common_steps, none_generates)

pub returns-in-Ok-clause-no_command : goal.returns-in-Ok-clause-no_command
returns-in-Ok-clause-no_command g c none = line_alone _ _ _ _ Usage usage_line c.finish.result c.finish.ensures.ends

pub returns-clause-no_command : goal.returns-clause-no_command
returns-clause-no_command g c none = out_of_memory (Appends-none _, Appends-none _)

pub returns-in-Ok-clause-bad_entries : goal.returns-in-Ok-clause-bad_entries
returns-in-Ok-clause-bad_entries g c number e = absurd (usage_is_no_bad_line _ _ _ usage_line c.finish.result number c.finish.ensures.ends e)

pub returns-in-Ok-clause-agrees : goal.returns-in-Ok-clause-agrees
returns-in-Ok-clause-agrees g c contents tells ended =
    let none : command (map string_bytes c.args.words.items) ≡ None = grind (arith, common_steps, none_generates) in
    (line_ends_run (map string_bytes c.args.words.items) contents _ _ _ Usage usage_line _ c.finish.result (no_command none) (λ P p. p) usage_is_no_edit c.finish.ensures.ends).agrees ended

pub returns-in-Ok-clause-shown : goal.returns-in-Ok-clause-shown
returns-in-Ok-clause-shown g c contents tells = λ link is. none_put (Appends-none _)
