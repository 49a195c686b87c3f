use Rattle.judging_vectors.proofs.reads.add_read.Goals as goal

pub print_listing-requires : goal.print_listing-requires
print_listing-requires c = c.each_class_of_a_file_has_a_listing.ensures c.args.file.now c.in-Ok.class c.in-Ok.ensures.answer.right
