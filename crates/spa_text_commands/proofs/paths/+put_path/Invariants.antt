use Rattle.spa_text_commands.proofs.paths.+put_path.Given as goal

abbrev pub decreases-put_path : goal.decreases-put_path
decreases-put_path l = l.limit
