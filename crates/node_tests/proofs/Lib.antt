mod Lacks
