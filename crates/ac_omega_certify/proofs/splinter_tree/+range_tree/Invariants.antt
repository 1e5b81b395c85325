use Rattle.ac_omega_certify.proofs.splinter_tree.+range_tree.Given as goal

abbrev pub decreases-range_tree : goal.decreases-range_tree
decreases-range_tree l = l.depth
