use Rattle.std.proofs.Common.{◌≡◌, map, sym, ap, ◌∙◌, Some, None}
use Rattle.std.specs.Prelude.{string_bytes}
use Rattle.sjsir.specs.Command.{command, help, version, print, make}
use Rattle.sjsir.specs.Parts.{command_of}
use Rattle.sjsir.specs.Output.{no_command, helped, versioned, front_of, usage_line, help_text, version_line}
use Rattle.sjsir.specs.declared.words.Asked.TheVariants as words
use Rattle.sjsir.specs.declared.answers.Status.TheVariants.{Usage}
use Rattle.sjsir.proofs.Endings.{ends_whole, ends_front, line_ends, line_alone, prints_whole, prints_front, made_output}
use Rattle.sjsir.proofs.program.run.Goals as goal

pub returns-in-None-clause-whole : goal.returns-in-None-clause-whole
returns-in-None-clause-whole g c contents tells =
    let is : command (map string_bytes c.args.words.items) ≡ None = ap (λ ws. command (map string_bytes ws)) (sym c.as_slice.ensures.value) ∙ sym c.in-None.ensures in
    ends_whole (map string_bytes c.args.words.items) contents _ _ _ _ _ c.print_text.result _ _ (no_command is) (line_ends (g.O.Outputs.puts c.args.outputs.now) _ _ _ _ usage_line (Unit {0}) _ c.print_text.ensures.ends)

pub returns-in-None-clause-front : goal.returns-in-None-clause-front
returns-in-None-clause-front g c contents tells =
    let is : command (map string_bytes c.args.words.items) ≡ None = ap (λ ws. command (map string_bytes ws)) (sym c.as_slice.ensures.value) ∙ sym c.in-None.ensures in
    front_of _ (no_command is) (ends_front _ _ _ _ _ _ _ _ (line_ends (g.O.Outputs.puts c.args.outputs.now) _ _ _ _ usage_line (Unit {0}) _ c.print_text.ensures.ends))

pub returns-in-Some-Help-clause-whole : goal.returns-in-Some-Help-clause-whole
returns-in-Some-Help-clause-whole g c contents tells =
    let is : command (map string_bytes c.args.words.items) ≡ Some help = ap (λ ws. command (map string_bytes ws)) (sym c.as_slice.ensures.value) ∙ sym c.in-Some-Help.ensures ∙ ap (λ a. Some (command_of a)) c.in-Some-Help.field-0-is in
    ends_whole (map string_bytes c.args.words.items) contents _ _ _ _ _ c.print_text-in-Some-Help.result _ _ (helped is) (line_ends (g.O.Outputs.puts c.args.outputs.now) _ _ _ _ help_text (Unit {0}) _ c.print_text-in-Some-Help.ensures.ends)

pub returns-in-Some-Help-clause-front : goal.returns-in-Some-Help-clause-front
returns-in-Some-Help-clause-front g c contents tells =
    let is : command (map string_bytes c.args.words.items) ≡ Some help = ap (λ ws. command (map string_bytes ws)) (sym c.as_slice.ensures.value) ∙ sym c.in-Some-Help.ensures ∙ ap (λ a. Some (command_of a)) c.in-Some-Help.field-0-is in
    front_of _ (helped is) (ends_front _ _ _ _ _ _ _ _ (line_ends (g.O.Outputs.puts c.args.outputs.now) _ _ _ _ help_text (Unit {0}) _ c.print_text-in-Some-Help.ensures.ends))

pub returns-in-Some-Version-clause-whole : goal.returns-in-Some-Version-clause-whole
returns-in-Some-Version-clause-whole g c contents tells =
    let is : command (map string_bytes c.args.words.items) ≡ Some version = ap (λ ws. command (map string_bytes ws)) (sym c.as_slice.ensures.value) ∙ sym c.in-Some-Version.ensures ∙ ap (λ a. Some (command_of a)) c.in-Some-Version.field-0-is in
    ends_whole (map string_bytes c.args.words.items) contents _ _ _ _ _ c.print_text-in-Some-Version.result _ _ (versioned is) (line_ends (g.O.Outputs.puts c.args.outputs.now) _ _ _ _ version_line (Unit {0}) _ c.print_text-in-Some-Version.ensures.ends)

pub returns-in-Some-Version-clause-front : goal.returns-in-Some-Version-clause-front
returns-in-Some-Version-clause-front g c contents tells =
    let is : command (map string_bytes c.args.words.items) ≡ Some version = ap (λ ws. command (map string_bytes ws)) (sym c.as_slice.ensures.value) ∙ sym c.in-Some-Version.ensures ∙ ap (λ a. Some (command_of a)) c.in-Some-Version.field-0-is in
    front_of _ (versioned is) (ends_front _ _ _ _ _ _ _ _ (line_ends (g.O.Outputs.puts c.args.outputs.now) _ _ _ _ version_line (Unit {0}) _ c.print_text-in-Some-Version.ensures.ends))

pub returns-in-Some-Print-clause-whole : goal.returns-in-Some-Print-clause-whole
returns-in-Some-Print-clause-whole g c contents tells =
    let is : command (map string_bytes c.args.words.items) ≡ Some (print (map string_bytes c.in-Some-Print.files.now)) = ap (λ ws. command (map string_bytes ws)) (sym c.as_slice.ensures.value) ∙ sym c.in-Some-Print.ensures ∙ ap (λ a. Some (command_of a)) c.in-Some-Print.field-0-is in
    prints_whole (map string_bytes c.args.words.items) contents (map string_bytes c.in-Some-Print.files.now) _ _ _ _ is (c.print_files.ensures.told contents tells)

pub returns-in-Some-Print-clause-front : goal.returns-in-Some-Print-clause-front
returns-in-Some-Print-clause-front g c contents tells =
    let is : command (map string_bytes c.args.words.items) ≡ Some (print (map string_bytes c.in-Some-Print.files.now)) = ap (λ ws. command (map string_bytes ws)) (sym c.as_slice.ensures.value) ∙ sym c.in-Some-Print.ensures ∙ ap (λ a. Some (command_of a)) c.in-Some-Print.field-0-is in
    prints_front (map string_bytes c.args.words.items) contents (map string_bytes c.in-Some-Print.files.now) _ _ _ _ is (c.print_files.ensures.told contents tells)

pub returns-in-Some-Print-clause-usage : goal.returns-in-Some-Print-clause-usage
returns-in-Some-Print-clause-usage g c e = absurd (c.print_files.ensures.no_usage e)

pub returns-in-Ok-clause-whole : goal.returns-in-Ok-clause-whole
returns-in-Ok-clause-whole g c contents tells =
    let is : command (map string_bytes c.args.words.items) ≡ Some (make c.in-Some-Make.listing.now c.in-Some-Make.out.now) = ap (λ ws. command (map string_bytes ws)) (sym c.as_slice.ensures.value) ∙ sym c.in-Some-Make.ensures ∙ ap (λ a. Some (command_of a)) c.in-Some-Make.field-0-is in
    ends_whole (map string_bytes c.args.words.items) contents _ _ _ _ _ c.write_made.result _ _ (made_output _ contents _ _ c.in-Ok.made is (c.in-Ok.ensures.told contents tells)) c.write_made.ensures.ends

pub returns-in-Ok-clause-front : goal.returns-in-Ok-clause-front
returns-in-Ok-clause-front g c contents tells =
    let is : command (map string_bytes c.args.words.items) ≡ Some (make c.in-Some-Make.listing.now c.in-Some-Make.out.now) = ap (λ ws. command (map string_bytes ws)) (sym c.as_slice.ensures.value) ∙ sym c.in-Some-Make.ensures ∙ ap (λ a. Some (command_of a)) c.in-Some-Make.field-0-is in
    front_of _ (made_output _ contents _ _ c.in-Ok.made is (c.in-Ok.ensures.told contents tells)) (ends_front _ _ _ _ _ _ _ _ c.write_made.ensures.ends)

pub returns-in-None-clause-no_command : goal.returns-in-None-clause-no_command
returns-in-None-clause-no_command g c none = line_alone _ _ _ Usage usage_line _ c.print_text.result c.print_text.ensures.ends
