mod Different
