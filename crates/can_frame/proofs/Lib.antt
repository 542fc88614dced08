mod Priorities
