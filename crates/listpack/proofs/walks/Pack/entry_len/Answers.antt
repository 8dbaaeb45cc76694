use Rattle.listpack.proofs.walks.Pack.entry_len.Goals as goal
