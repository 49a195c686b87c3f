use Rattle.std.proofs.Common.{◌∙◌, ℕ, List, [], ◌∷◌, subst, inl}
use Rattle.std.specs.Prelude.{codes}
use Rattle.sj_outside.specs.Writing.{Writes, put}
use Rattle.sj_outside.proofs.Laws.{Writes-put}
use Rattle.sjsir.specs.Output.{no_listing_line, no_file_line, too_deep_line}
use Rattle.sjsir.specs.Writing.{all_written, faulted, out_of_memory}
use Rattle.sjsir.specs.declared.answers.Status.TheVariants.{SomeRefused}
use Rattle.sjsir.specs.declared.making.Made.TheVariants.{File, NoListing, NoFile, TooDeep}
use Rattle.sjsir.proofs.Endings.{made_ends, put_refused, line_ends, text_ends, nothing_is_front}
use Rattle.sjsir.proofs.writing.write_made.Goals as goal

pub returns-in-Ok-clause-ends : goal.returns-in-Ok-clause-ends
returns-in-Ok-clause-ends g c = made_ends c.args.out.now c.args.made.now (File c.in-File.bytes) _ _ _ _ _ _ c.in-File.is (all_written (subst (λ (b : List ℕ). Writes (g.O.Outputs.puts c.args.outputs.now) (g.O.Outputs.puts c.put.new.self) (g.L.Lines.printed c.args.lines.now) (g.L.Lines.printed c.args.lines.now) (put (record { out = codes "."; edit = 1; name = c.args.out.now; bytes = b }) ∷ [])) c.as_slice.ensures (Writes-put _ _ _ _ c.in-Ok.ensures.put)))

pub returns-in-Err-Failed-clause-ends : goal.returns-in-Err-Failed-clause-ends
returns-in-Err-Failed-clause-ends g c = made_ends c.args.out.now c.args.made.now (File c.in-File.bytes) _ _ _ _ _ _ c.in-File.is (faulted (put_refused _ _ _ _ c.in-Err-Failed.ensures.unchanged) (inl (c.in-Err-Failed.ensures.cause.failed (cc))))

pub returns-in-Err-NoMemory-clause-ends : goal.returns-in-Err-NoMemory-clause-ends
returns-in-Err-NoMemory-clause-ends g c = made_ends c.args.out.now c.args.made.now (File c.in-File.bytes) _ _ _ _ _ _ c.in-File.is (out_of_memory (put_refused _ _ _ _ c.in-Err-NoMemory.ensures.unchanged))

pub returns-in-Ok-no_listing_line-clause-ends : goal.returns-in-Ok-no_listing_line-clause-ends
returns-in-Ok-no_listing_line-clause-ends g c = made_ends c.args.out.now c.args.made.now (NoListing c.in-NoListing.place) _ _ _ _ _ _ c.in-NoListing.is (line_ends _ _ _ SomeRefused _ (no_listing_line c.in-NoListing.place) _ _ (text_ends _ _ _ _ _ _ _ (c.as_str.ensures.value ∙ c.in-Ok-no_listing_line.ensures) c.print_text.ensures.ends))

pub returns-in-Err-clause-ends : goal.returns-in-Err-clause-ends
returns-in-Err-clause-ends g c = made_ends c.args.out.now c.args.made.now (NoListing c.in-NoListing.place) _ _ _ _ _ _ c.in-NoListing.is (out_of_memory (nothing_is_front _ _ _))

pub returns-in-NoFile-clause-ends : goal.returns-in-NoFile-clause-ends
returns-in-NoFile-clause-ends g c = made_ends c.args.out.now c.args.made.now NoFile _ _ _ _ _ _ c.in-NoFile.is (line_ends _ _ _ SomeRefused _ no_file_line _ _ c.print_text-in-NoFile.ensures.ends)

pub returns-in-TooDeep-clause-ends : goal.returns-in-TooDeep-clause-ends
returns-in-TooDeep-clause-ends g c = made_ends c.args.out.now c.args.made.now TooDeep _ _ _ _ _ _ c.in-TooDeep.is (line_ends _ _ _ SomeRefused _ too_deep_line _ _ c.print_text-in-TooDeep.ensures.ends)
